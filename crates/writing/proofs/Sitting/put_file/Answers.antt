-- `writing::Sitting::put_file` meets its contract: the header, then the two samples. Assumes nothing.
use Rattle.std.proofs.Common.{ℕ, ◌≡◌, List, [], ◌++◌, refl}
use Rattle.placing.specs.Placing.{HasRoom, Puts}
use Rattle.placing.proofs.Laws.{room_front, room_back, puts_then}
use Rattle.sitting_file.specs.Verdict.{written, with_header}
use Rattle.writing.specs.declared.Sitting.{Sitting}
use Rattle.writing.proofs.Good.{symbols_follow}
use Rattle.writing.proofs.Sitting.put_file.Goals as goal

-- a file put in two steps, the header and then the samples, where there is room for it
module _ (s : Sitting) (before : List ℕ) where
  abbrev xs : List ℕ
  xs = s.first.now

  abbrev ys : List ℕ
  ys = s.second.now

  abbrev file : List ℕ
  file = written (with_header s.shape (xs ++ ys))

  abbrev head : List ℕ
  head = written (with_header s.shape [])

  module _ (room : HasRoom file 0 before) where
    parts : file ≡ head ++ (xs ++ ys)
    parts = symbols_follow s.shape xs ys s.in_limits s.first_below s.second_below

    head_room : HasRoom head 0 before
    head_room = room_front file head (xs ++ ys) parts 0 before room

    module _ (b : List ℕ) (at : ℕ) (first : Puts head 0 before b at) where
      -- room for the samples behind the header
      samples_room : HasRoom (xs ++ ys) at b
      samples_room = room_back file head (xs ++ ys) parts 0 before room b at first

      middle_room : HasRoom xs at b
      middle_room = room_front (xs ++ ys) xs ys refl at b samples_room

      module _ (d : List ℕ) (middle : ℕ) (second : Puts xs at b d middle) where
        -- and for the second behind the first
        last_room : HasRoom ys middle d
        last_room = room_back (xs ++ ys) xs ys refl at b samples_room d middle second

        all_put : (e : List ℕ) (z : ℕ) → Puts ys middle d e z → Puts file 0 before e z
        all_put e z third =
            puts_then file head (xs ++ ys) parts 0 before room b at first e z
            (puts_then (xs ++ ys) xs ys refl at b samples_room d middle second e z third)

pub put_header-at-requires : goal.put_header-at-requires
put_header-at-requires c = head_room c.args.self.now c.args.file.now c.requires

pub put_bytes-middle-requires : goal.put_bytes-middle-requires
put_bytes-middle-requires c = middle_room c.args.self.now c.args.file.now c.requires _ _ c.put_header-at.ensures

pub put_bytes-requires : goal.put_bytes-requires
put_bytes-requires c = last_room c.args.self.now c.args.file.now c.requires _ _ c.put_header-at.ensures _ _ c.put_bytes-middle.ensures

pub returns : goal.returns
returns c = all_put c.args.self.now c.args.file.now c.requires _ _ c.put_header-at.ensures _ _ c.put_bytes-middle.ensures _ _ c.put_bytes.ensures
