-- Numbers written one after another, and those of them that are within their limits. Assumes nothing.
use Prim.Native.Nat.{ℕ, zero, suc, ◌+◌, ◌-◌, ◌<◌, ◌≤◌}
use mathlib.Core.Path.{◌≡◌, refl, sym, ap, subst, ◌∙◌}
use mathlib.Core.Bool.{Bool, true, false, cond}
use mathlib.Core.List.{List, [], ◌∷◌, ◌++◌, append_assoc, append-nil}
use native.Mathlib.Omega.{arith}
use lib.ListN.{length, length-append}
use lib.Dec.{ltb}
use borrow.Author.Tests.{ltb-true, lt-ltb}
use Rattle.numbers.specs.Limits.{fewest_symbols}
use Rattle.sitting_file.specs.Samples.{Below}
use Rattle.sitting_file.specs.Verdict.{shortest, written, with_header, OfFormat, from_to, nothing, due_after, MeetsDue, Follow}
use Rattle.sitting_file.specs.declared.Shape.{Shape}

pub written_append : (us vs : List ℕ) → written (us ++ vs) ≡ written us ++ written vs
written_append [] vs = refl
written_append (u ∷ us) vs = ap (λ (l : List ℕ). shortest u ++ l) (written_append us vs) ∙ sym (append_assoc (shortest u) (written us) (written vs))

-- one number more
pub written_more : (us : List ℕ) (v : ℕ) (rest : List ℕ) → written us ++ (shortest v ++ rest) ≡ written (us ++ v ∷ []) ++ rest
written_more us v rest = rw (written_append us (v ∷ []), append_assoc (written us) (shortest v ++ []) rest, append_assoc (shortest v) [] rest)

pub follow_more : (us vs : List ℕ) (v : ℕ) → Follow us vs → MeetsDue (due_after (us ++ vs)) v → Follow us (vs ++ v ∷ [])
follow_more us [] v f w = (subst (λ (l : List ℕ). MeetsDue (due_after l) v) (append-nil us) w, tt)
follow_more us (x ∷ vs) v f w = (f.0, follow_more (us ++ x ∷ []) vs v f.1 (subst (λ (l : List ℕ). MeetsDue (due_after l) v) (sym (append_assoc us (x ∷ []) vs)) w))

-- ---- symbols after a header

module _ (shape : Shape) where
  abbrev wanted : ℕ
  wanted = shape.first + shape.second

  -- one more symbol is due only where fewer than n + m stand, and it is below A
  pub symbol_due : (us : List ℕ) (v : ℕ) → MeetsDue (due_after (with_header shape us)) v → (length us < wanted) × (v ≤ shape.alphabet - 1)
  symbol_due us v f = go (ltb (length us) wanted) refl f
    where
      go : (t : Bool) → ltb (length us) wanted ≡ t → MeetsDue (cond t (from_to 0 (shape.alphabet - 1)) nothing) v → (length us < wanted) × (v ≤ shape.alphabet - 1)
      go true e f = (ltb-true (length us) wanted e, f.1)
      go false e f = absurd f

  pub follow_below : (us ss : List ℕ) → 1 ≤ shape.alphabet → Follow (with_header shape us) ss → Below shape.alphabet ss
  follow_below us [] h f i l = absurd (omega arith)
  follow_below us (v ∷ ss) h f zero l = let d = symbol_due us v f.0 in omega arith
  follow_below us (v ∷ ss) h f (suc i) l = follow_below (us ++ v ∷ []) ss h f.1 i (omega arith)

  below_follow : (us ss : List ℕ) → length us + length ss ≤ wanted → Below shape.alphabet ss → Follow (with_header shape us) ss
  below_follow us [] h b = tt
  below_follow us (v ∷ ss) h b =
      let small : v < shape.alphabet = b 0 (omega arith) in
      (rw (lt-ltb (length us) wanted (omega arith)) (omega arith), below_follow (us ++ v ∷ []) ss (simp length-append (omega arith)) (λ i l. b (suc i) (omega arith)))

  -- the numbers of a file of the format are within their limits, and these are its files
  pub format_follow : (file : List ℕ) (f : OfFormat file shape) → Follow [] (with_header shape f.symbols)
  format_follow file f =
      let l = f.limits in
      let count : length f.symbols ≡ wanted = f.count in
      ((l.alphabet_low, l.alphabet_high), ((omega arith, l.depth_high), ((omega arith, l.first_high), ((omega arith, l.second_high), below_follow [] f.symbols (omega arith) f.below))))

  pub follow_format : (file ss : List ℕ) → Follow [] (with_header shape ss) → length ss ≡ wanted → file ≡ written (with_header shape ss) → OfFormat file shape
  follow_format file ss f h e =
      let low : fewest_symbols ≤ shape.alphabet = f.0.0 in
      record {
        symbols = ss;
        limits = record { alphabet_low = f.0.0; alphabet_high = f.0.1; depth_high = f.1.0.1; first_high = f.1.1.0.1; second_high = f.1.1.1.0.1 };
        count = h;
        below = follow_below [] ss (omega arith) f.1.1.1.1;
        bytes = e;
      }
