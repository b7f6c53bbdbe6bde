-- What the promises of an opening, a feed and a closing ask can be kept: at every sound store there are an outcome and numbers that keep them, one
-- after each way through the table. Assumes nothing.
use mathlib.Core.Path.{◌≡◌, refl}
use mathlib.Core.Bool.{Bool, true, false}
use mathlib.Core.List.{List}
use Prim.Native.Nat.{ℕ, ◌+◌, ◌≤◌, ◌<◌}
use native.Mathlib.Omega.{arith}
use native.Mathlib.Decide.{dec_le}
use Rattle.numbers.specs.Limits.{longest, desks}
use Rattle.contexts.specs.Sitting.{sample_of}
use Rattle.replay.specs.Room.{Opening, left}
use Rattle.replay.specs.Table.{Outcome, refused, answered}
use Rattle.replay.specs.Machine.{opening, asking, closing, Call, at_desk, outside_limits, weight_outside, verdict}
use Rattle.store.specs.Layout.{reserve_at, symbols_at, size_at, records_in}
use Rattle.store.specs.Sound.{soundb, held_by}
use Rattle.store.specs.Plain.{Open}
use Rattle.store.specs.Meaning.{meaning}
use Rattle.store.proofs.Fitting.{open?}
use Rattle.store.proofs.Passing.{header_long}
use Rattle.rules.specs.Rules.{Answer, feed, done, rules}
use Rattle.calls.specs.Promises.{Moves}
use Rattle.calls.proofs.Keeping.{moves_unsound, moves_refused}
use Rattle.changes.specs.Changes.{fresh_desk}
use Rattle.changes.specs.FedStore.{Acceptable, recent_at, is_counted, missing_if}
use Rattle.changes.specs.Words.{Words}
use Rattle.changes.proofs.Granting as grant
use Rattle.changes.proofs.Vacant.{ready_there, shut_there, open_there}
use Rattle.changes.proofs.Laying.{laid, opened_now}
use Rattle.changes.proofs.Beginning.{opened_moves}
use Rattle.changes.proofs.Shutting.{close_no_desk, close_not_open, closed_moves}
use Rattle.changes.proofs.Judging as judge
use Rattle.changes.proofs.Feeding.{fed_moves}
use Rattle.changes.proofs.Written.{shut_store, shut_now, fed_store, fed_now}
use Rattle.changes.proofs.StoreWords.{opened_words, shut_words, fed_words}

-- a call on the numbers s has an outcome, and numbers after it, that the promise of a move allows; of 32 bits, where those before are
pub record Possible (s : List ℕ) (c : Call rules) : Type 0 where
  pub outcome : Outcome Answer
  pub after : List ℕ
  pub moves : Moves s c outcome after
  pub words : Words s → Words after

-- numbers that do not pass the test
pub unsound_possible : (s : List ℕ) (c : Call rules) → soundb s ≡ false → Possible s c
unsound_possible s c f = record { outcome = refused 1; after = s; moves = moves_unsound s c f; words = λ w. w }

module _ (s : List ℕ) (h : soundb s ≡ true) (d : ℕ) where
  refuses : (n : ℕ) (c : Call rules) → verdict rules (meaning s) c ≡ refused n → Possible s c
  refuses n c v = record { outcome = refused n; after = s; moves = moves_refused s c n h v; words = λ w. w }

  -- ---- an opening

  granted : (o : Opening) → (Open s d → ⊥) → grant.Granted (meaning s) d o → Possible s (at_desk d (opening o))
  granted o shut g = record {
    outcome = answered done;
    after = laid s d (fresh_desk o);
    moves = opened_moves s (laid s d (fresh_desk o)) d o h shut g (opened_now s d o (header_long s h) g.ready.desk (fresh_desk o) refl);
    words = λ w. opened_words s h w d o g;
  }

  reserving : (o : Opening) → d < desks → (Open s d → ⊥) → outside_limits o ≡ false → weight_outside o ≡ false → Possible s (at_desk d (opening o))
  reserving o near shut limits weight =
      elim (dec_le 1 o.reserve) [
        | no z ↦ refuses 6 (at_desk d (opening o)) (grant.zero_reserved (meaning s) d o ready (omega arith))
        | yes some ↦ elim (dec_le o.reserve (meaning s).made) [
          | no far ↦ refuses 6 (at_desk d (opening o)) (grant.above_room (meaning s) d o ready some (omega arith))
          | yes in_room ↦ elim (dec_le o.reserve (left (meaning s))) [
            | no far ↦ refuses 7 (at_desk d (opening o)) (grant.above_left (meaning s) d o ready some in_room (omega arith))
            | yes fits ↦ granted o shut (record { ready = ready; some = some; in_room = in_room; fits = fits })
          ]
        ]
      ]
    where
      ready : grant.Ready (meaning s) d o
      ready = ready_there s d o (record { sound = h; desk = near; shut = shut; limits = limits; weight = weight })

  pub opening_possible : (o : Opening) → Possible s (at_desk d (opening o))
  opening_possible o = elim (dec_le desks d) [
    | yes far ↦ refuses 2 (at_desk d (opening o)) (grant.no_desk (meaning s) d o far)
    | no near ↦ elim (open? s d) [
      | yes p ↦ refuses 3 (at_desk d (opening o)) (open_there s d o p)
      | no shut ↦ go (omega arith) shut (outside_limits o) refl
    ]
  ]
    where
      weighed : d < desks → (Open s d → ⊥) → outside_limits o ≡ false → (b : Bool) → weight_outside o ≡ b → Possible s (at_desk d (opening o))
      weighed near shut within true e = refuses 20 (at_desk d (opening o)) (grant.heavy (meaning s) d o near (shut_there s d shut) within e)
      weighed near shut within false e = reserving o near shut within e

      go : d < desks → (Open s d → ⊥) → (b : Bool) → outside_limits o ≡ b → Possible s (at_desk d (opening o))
      go near shut true e = refuses 5 (at_desk d (opening o)) (grant.outside (meaning s) d o near (shut_there s d shut) e)
      go near shut false e = weighed near shut e (weight_outside o) refl

  -- ---- a closing

  closed : Open s d → Possible s (at_desk d closing)
  closed o = record { outcome = answered done; after = shut_store s d; moves = closed_moves s (shut_store s d) d h o (shut_now s d h o.desk); words = λ w. shut_words s h w d }

  pub closing_possible : Possible s (at_desk d closing)
  closing_possible = elim (dec_le desks d) [
    | yes far ↦ record { outcome = refused 2; after = s; moves = close_no_desk s d h far; words = λ w. w }
    | no near ↦ elim (open? s d) [
      | yes o ↦ closed o
      | no shut ↦ record { outcome = refused 4; after = s; moves = close_not_open s d h (omega arith) shut; words = λ w. w }
    ]
  ]

  -- ---- a feed

  acceptable : (k a : ℕ) → k ≤ 1 → Acceptable s d (sample_of k) a → Possible s (at_desk d (asking (feed k a)))
  acceptable k a one p = record { outcome = answered done; after = fed_store s d (sample_of k) a; moves = fed_moves s (fed_store s d (sample_of k) a) d k a one p (fed_now s d (sample_of k) a p); words = λ w. fed_words s h w d (sample_of k) a p }

  module _ (k a : ℕ) where
    judged : Open s d → k ≤ 1 → a < symbols_at s d → size_at s d (sample_of k) < longest → Possible s (at_desk d (asking (feed k a)))
    judged o one below short = elim (dec_le (held_by d (records_in s) + missing_if (is_counted s d (sample_of k)) d (recent_at s d (sample_of k)) (records_in s)) (reserve_at s d)) [
      | no past ↦ refuses 10 (at_desk d (asking (feed k a))) (judge.past_reservation_lem s d k a o one below short h (omega arith))
      | yes within ↦ acceptable k a one (record { sound = h; at_open = o; of_alphabet_holds = below; not_full = short; reserved = within })
    ]

    at_open : Open s d → Possible s (at_desk d (asking (feed k a)))
    at_open o = elim (dec_le k 1) [
      | no far ↦ refuses 8 (at_desk d (asking (feed k a))) (judge.no_sample s d k a o (omega arith))
      | yes one ↦ elim (dec_le (symbols_at s d) a) [
        | yes far ↦ refuses 8 (at_desk d (asking (feed k a))) (judge.no_symbol s d k a o one far)
        | no near ↦ elim (dec_le longest (size_at s d (sample_of k))) [
          | yes full ↦ refuses 9 (at_desk d (asking (feed k a))) (judge.sample_full s d k a o one (omega arith) full)
          | no short ↦ judged o one (omega arith) (omega arith)
        ]
      ]
    ]

    pub feed_possible : Possible s (at_desk d (asking (feed k a)))
    feed_possible = elim (dec_le desks d) [
      | yes far ↦ refuses 2 (at_desk d (asking (feed k a))) (judge.no_such_desk_lem s d k a far)
      | no near ↦ elim (open? s d) [
        | yes o ↦ at_open o
        | no shut ↦ refuses 4 (at_desk d (asking (feed k a))) (judge.not_open s d k a (omega arith) shut)
      ]
    ]
