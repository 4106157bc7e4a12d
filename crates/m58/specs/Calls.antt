-- What the calls from C mean: what is answered, and what the words of a saved state are afterwards. Definitions only;
-- the laws are in Laws.
-- Assumes nothing.
use Rattle.std.specs.Prelude.{ℕ, ◌+◌, ◌*◌, min, Bool, true, cond, ◌&&◌, List, ◌≡◌, eqb, leb, ltb, length, Result, Ok, Err}
use Rattle.refusal.specs.declared.Refusal.{Refusal}
use Rattle.refusal.specs.Numbers.{number}
use Rattle.geometry.specs.Blocks.{part_numbered, geometry_of, blocks, start_of}
use Rattle.protection.specs.declared.Report.{Report}
use Rattle.semantics.specs.declared.State.{State}
use Rattle.semantics.specs.State.{power_up}
use Rattle.wear.specs.declared.Worn.{Worn}
use Rattle.wear.specs.Counts.{Counts, no_counts}
use Rattle.wear.specs.Steps.{after_all_with}
use Rattle.device.specs.Outcomes.{holding}
use Rattle.playback.specs.Playback.{playable, machine_of, Played}
use Rattle.intelhex.specs.Records.{verdict, verdict_number, verdict_line, array_read}
use Rattle.intelhex.specs.Text.{written, written_number, written_length, room_after}
use Rattle.saved.specs.Saved.{saved_of, is_saved, state_of}

-- the start of a block in one number: its lowest location from bit 0; 7 "part number above 3" from bit 32; and for a
-- number that is no block 16,777,216, which is no location of any part
unfoldable pub start_code : ℕ → ℕ → ℕ
start_code part block =
    cond (leb part 3)
    (cond (ltb block (blocks (geometry_of (part_numbered part)))) (start_of (geometry_of (part_numbered part)) block) 16777216)
    (7 * 4294967296)

-- power-up wants the number of a part, and room for 25 words
unfoldable pub powers_up : ℕ → List ℕ → Bool
powers_up part room = leb part 3 && eqb (length room) 25

unfoldable pub powered_up : ℕ → List ℕ → List ℕ
powered_up part room = cond (powers_up part room) (saved_of (power_up (part_numbered part))) room

-- and its counts are 0: document 02, item 6, "power-up starts them at 0"
unfoldable pub unworn : ℕ → List ℕ → Counts → Counts
unworn part room k = cond (powers_up part room) no_counts k

-- the report in one number: the refusal from bit 32; or the count from bit 16, the lowest block from bit 0
abbrev pub report_code : Result Report Refusal → ℕ
report_code (Ok r) = r.count * 65536 + r.lowest
report_code (Err e) = number e * 4294967296

-- the most worn block in one number likewise: its count from bit 16, the block from bit 0; and the count of a block
-- that is asked for, from bit 0
abbrev pub worn_code : Result Worn Refusal → ℕ
worn_code (Ok r) = r.count * 65536 + r.block
worn_code (Err e) = number e * 4294967296

abbrev pub count_code : Result Worn Refusal → ℕ
count_code (Ok r) = r.count
count_code (Err e) = number e * 4294967296

-- the state after the numbers `codes` were played on the state of the words, its counts and an array, with a room for
-- the answers
unfoldable pub state_after : List ℕ → Counts → List ℕ → List ℕ → List ℕ → State
state_after ws k codes room xs = (after_all_with (machine_of (holding (state_of ws)) k xs) (playable codes (length room))).machine.state

-- what holds after n of the numbers were played
pub record Ran (ws : List ℕ) (k : Counts) (codes room xs : List ℕ) (n : ℕ) (after : List ℕ) (counts : Counts) (answers array : List ℕ) : Type 0 where
  -- the steps, the answers, the array and the counts are those of the state of the words, demand 3 and the counts'
  -- theorem among it
  pub played : Played (holding (state_of ws)) k codes room xs (record { played = n; device = holding (state_after ws k codes room xs) }) counts answers array
  -- the state after them is saved; words that are no saved state stay
  pub kept : after ≡ cond (is_saved ws) (saved_of (state_after ws k codes room xs)) ws
  -- so that the next call goes on with it
  pub goes_on : is_saved ws ≡ true → (is_saved after ≡ true) × (state_of after ≡ state_after ws k codes room xs)

-- ---- Intel HEX

-- a refusal and a number beside it in one number: the refusal from bit 32, and of the number no more than 32 bits hold
abbrev pub hex_code : ℕ → ℕ → ℕ
hex_code refusal number = refusal * 4294967296 + min number 4294967295

-- 7 "part number above 3", where there is no part whose array could be asked for
unfoldable pub hex_verdict : ℕ → List ℕ → List ℕ → ℕ
hex_verdict part text ws = cond (leb part 3) (hex_code (verdict_number (verdict (part_numbered part) text ws)) (verdict_line (verdict (part_numbered part) text ws))) (hex_code 7 0)

unfoldable pub hex_array : ℕ → List ℕ → List ℕ → List ℕ
hex_array part text ws = cond (leb part 3) (array_read (part_numbered part) text ws) ws

unfoldable pub hex_written : ℕ → List ℕ → List ℕ → ℕ
hex_written part ws room = cond (leb part 3) (hex_code (written_number (written (part_numbered part) ws room)) (written_length (written (part_numbered part) ws room))) (hex_code 7 0)

unfoldable pub hex_room : ℕ → List ℕ → List ℕ → List ℕ
hex_room part ws room = cond (leb part 3) (room_after (part_numbered part) ws room) room
