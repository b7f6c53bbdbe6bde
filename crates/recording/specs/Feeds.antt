-- A feed as the code names it. Assumes nothing.
use Rattle.contexts.specs.Sitting.{Sample, sample_of}
use Rattle.records.specs.Samples.{sample_index}
use Rattle.recording.specs.declared.Feed.{Feed}

-- the sample that it goes to
abbrev pub sample_fed : Feed → Sample
sample_fed f = sample_of (sample_index f.sample)
