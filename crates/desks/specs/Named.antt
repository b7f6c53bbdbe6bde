-- What an opening names, as the code has it, as an opening of the room's machine. Assumes nothing.
use Rattle.replay.specs.Room.{Opening, naming}
use Rattle.desks.specs.declared.Named.{Named}

abbrev pub naming_of : Named → Opening
naming_of named = naming named.alphabet named.depth named.weight named.reservation
