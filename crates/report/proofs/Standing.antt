-- An open desk of a sound store can be weighed, and what is weighed is its sitting. Assumes nothing.
use Prim.Native.Nat.{ℕ, ◌+◌, ◌<◌}
use native.Mathlib.Omega.{arith}
use mathlib.Core.Path.{◌≡◌, refl, sym, ap, subst, fun_ext, ◌∙◌}
use mathlib.Core.Bool.{Bool, true, false}
use mathlib.Core.List.{List, [], ◌∷◌, ◌++◌}
use lib.ListN.{length, drop, get_or, length-drop, length-map}
use lib.Dec.{T, eqb, eqb_refl}
use Rattle.numbers.specs.Limits.{most_symbols, deepest}
use Rattle.numbers.proofs.Tests.{both}
use Rattle.numbers.proofs.Orders.{Order, less, same, more, order}
use Rattle.contexts.specs.Context.{is_context, begins}
use Rattle.contexts.specs.Keys.{key_of, desk_of}
use Rattle.contexts.specs.Sitting.{Sample, first, second, Sitting}
use Rattle.contexts.specs.Strings.{strings}
use Rattle.contexts.proofs.Strings.{context_more}
use Rattle.contexts.proofs.KeyOrder.{desk_of_key}
use Rattle.estimate.specs.Trees.{shared}
use Rattle.estimate.specs.Score.{cost}
use Rattle.estimate.specs.Table.{CostsOf}
use Rattle.estimate.specs.declared.ByKind.{ByKind}
use Rattle.estimate.specs.Recursion.{losses, joint, estimate_of}
use Rattle.estimate.proofs.Choice.{joint_le}
use Rattle.rows.specs.Rows.{row_of, report_of}
use Rattle.rows.specs.Members.{members}
use Rattle.rows.specs.Walk.{older}
use Rattle.rows.proofs.Scoring.{members_limit}
use Rattle.records.specs.Records.{records, lookup}
use Rattle.records.specs.Held.{held, Standing}
use Rattle.records.proofs.Finding.{held_place, lookup_place, lookup_absent}
use Rattle.records.proofs.Counting.{total_blank}
use Rattle.store.specs.Layout.{header_size, used, symbols_at, depth_at, weight_at, size_at, records_in, total_of}
use Rattle.store.specs.Sound.{soundb}
use Rattle.store.specs.Plain.{Open, Sound, total_at}
use Rattle.store.specs.Meaning.{opening_at, progress_at, sitting_at, meaning, SittingFits}
use Rattle.store.proofs.Parts.{records_length}
use Rattle.store.proofs.Passing.{passed}
use Rattle.store.proofs.Standing.{sound_stands}
use Rattle.store.proofs.Fitting.{desk_opened, meaning_fits}
use Rattle.weighing.specs.Sitting.{sizes, sitting_in, Weighable}
use Rattle.weighing.specs.Weighs.{Weighs}
use Rattle.weighing.specs.declared.Least.{Least}
use Rattle.weighing.proofs.Counts.{losses_most}
use Rattle.report.specs.Desk.{desk_in, WeighedDesk}

-- a string begins each that it goes on as
begins_front : (t u : List ℕ) → T (begins t (t ++ u))
begins_front [] u = tt
begins_front (a ∷ t) u = both (eqb a a) (begins t (t ++ u)) (eqb_refl a) (begins_front t u)

module _ (s : List ℕ) (d : ℕ) (sound : soundb s ≡ true) (at_desk_holds : Open s d) where
  -- what the store promises of the desk's sitting
  pub fits : SittingFits (opening_at s d) (progress_at s d)
  unfolding meaning
  fits = (meaning_fits s sound).sittings d (opening_at s d) (progress_at s d) (desk_opened s d at_desk_holds)

  plain : Sound s
  plain = sound_stands s sound

  -- the sitting that is weighed is the desk's
  pub sitting_is : sitting_in (desk_in s d) (records_in s) ≡ sitting_at s d
  sitting_is = ap (λ (n : Sample → ℕ). with_sizes n) (fun_ext each)
    where
      each : (i : Sample) → sizes (size_at s d first) (size_at s d second) i ≡ size_at s d i
      each first = refl
      each second = refl

      with_sizes : (Sample → ℕ) → Sitting
      with_sizes n = record { symbols = symbols_at s d; depth = depth_at s d; weight = weight_at s d; size = n; count = (progress_at s d).count }

  pub records_stand : Standing (used s) (drop header_size s)
  unfolding records_in
  records_stand = record { fits = rw (length-drop header_size s) (let a = plain.few in let b = plain.long in omega arith); rising = (passed s sound).up }

  -- a record of the desk is that of one of its contexts
  of_context : (k : ℕ) → T (held k (records_in s)) → desk_of k ≡ d → (t : List ℕ) × T (is_context (symbols_at s d) (depth_at s d) t) × (k ≡ key_of d t)
  of_context k h e =
      let at = held_place k (records_in s) h in
      let c = plain.each_counts at.place (subst (λ (n : ℕ). at.place < n) (records_length s) at.inside) in
      let w = context_more _ most_symbols _ deepest c.context (plain.alphabet_most c.desk c.at_open) (plain.depth c.desk c.at_open) c.is_context_holds in
      let k_is : k ≡ key_of c.desk c.context = sym at.has ∙ c.under_key in
      let same : c.desk ≡ d = sym (desk_of_key c.desk c.context w) ∙ ap desk_of (sym k_is) ∙ e in
      (c.context, subst (λ (b : ℕ). T (is_context (symbols_at s b) (depth_at s b) c.context)) same c.is_context_holds, k_is ∙ ap (λ (b : ℕ). key_of b c.context) same)

  -- what is under a held key has been seen
  held_seen : (k : ℕ) → T (held k (records_in s)) → 0 < total_of first (lookup k (records_in s)) + total_of second (lookup k (records_in s))
  held_seen k h =
      let at = held_place k (records_in s) h in
      let c = plain.each_counts at.place (subst (λ (n : ℕ). at.place < n) (records_length s) at.inside) in
      let e : lookup k (records_in s) ≡ get_or (records_in s) at.place [] = ap (λ (b : ℕ). lookup b (records_in s)) (sym at.has) ∙ lookup_place 0 at.place (records_in s) (passed s sound).up at.inside in
      rw e c.seen

  -- and where something has been seen, the key is held
  seen_held : (k : ℕ) (i : Sample) → 0 < total_of i (lookup k (records_in s)) → T (held k (records_in s))
  seen_held k i l = go (held k (records_in s)) refl
    where
      go : (b : Bool) → held k (records_in s) ≡ b → T b
      go true e = tt
      go false e = absurd (let z = ap (total_of i) (lookup_absent k (records_in s) e) ∙ total_blank i k in omega arith)

  parent : (t : List ℕ) (a : ℕ) → T (held (key_of d (older t a)) (records_in s)) → T (is_context (symbols_at s d) (depth_at s d) (older t a)) → T (held (key_of d t) (records_in s))
  parent t a h c = go (order 0 (total_at s d first (older t a)))
    where
      up : (i : Sample) → 0 < total_at s d i (older t a) → T (held (key_of d t) (records_in s))
      up i l = seen_held (key_of d t) i (plain.suffixes d at_desk_holds (older t a) t c (begins_front t (a ∷ [])) i l)

      go : Order 0 (total_at s d first (older t a)) → T (held (key_of d t) (records_in s))
      go (less l) = up first l
      go (same e) = up second (let l = held_seen (key_of d (older t a)) h in omega arith)
      go (more l) = absurd (omega arith)

  pub weighable : Weighable (desk_in s d) (used s) (drop header_size s)
  unfolding records_in
  weighable = record {
    standing = records_stand;
    desk = at_desk_holds.desk;
    some = let a = fits.alphabet_fewest in omega arith;
    few = fits.alphabet_most;
    shallow = fits.depth_most;
    light = fits.weight_most;
    sized = let a = fits.sizes first in let b = fits.sizes second in omega arith;
    contexts = of_context;
    parents = parent;
    below = fits.only_below;
    counted = λ t. let a = fits.totals first t in let b = fits.totals second t in let x = fits.sizes first in let y = fits.sizes second in omega arith;
  }

  -- what a weighing says of the desk's sitting
  pub weighed_desk : (before kept : List ℕ) (r : Least) → Weighs (desk_in s d) (used s) (drop header_size s) before kept r → WeighedDesk s d kept r
  unfolding records_in strings
  weighed_desk before kept r w = record {
    decided = w.decided;
    joint_is = w.joint_least ∙ ap (λ (x : Sitting). joint (symbols_at s d) (depth_at s d) (losses x)) sitting_is;
    rows_are = w.rows_are ∙ ap (λ (x : Sitting). length (report_of x)) sitting_is;
    joint_small = omega (arith, w.joint_least, (joint_le (symbols_at s d) (depth_at s d) (losses x)).0, losses_most (desk_in s d) (used s) (drop header_size s) weighable costs priced [] shared);
    rows_small = omega (arith, w.rows_are, length-map (members (symbols_at s d) (depth_at s d) (estimate_of x)) (row_of x), members_limit (symbols_at s d) (depth_at s d) (estimate_of x) fits.alphabet_most fits.depth_most);
  }
    where
      x : Sitting
      x = sitting_in (desk_in s d) (records (used s) (drop header_size s))

      costs : ByKind
      costs = record { shared = cost (weight_at s d) (symbols_at s d) (size_at s d first + size_at s d second); first = cost (weight_at s d) (symbols_at s d) (size_at s d first); second = cost (weight_at s d) (symbols_at s d) (size_at s d second) }

      priced : CostsOf (weight_at s d) (symbols_at s d) (size_at s d first) (size_at s d second) costs
      priced = record { shared = refl; first = refl; second = refl }
