-- Answers and lists as a C program has them, computed: the number of each answer, which numbers of a list are played
-- with so much room, and the room after its answers. That a list is played right is said of every list by `Played`.
-- Assumes nothing.
use Rattle.std.specs.Prelude.{ℕ, true, List, [], ◌∷◌, map, ◌≡◌, refl}
use Rattle.refusal.specs.declared.Refusal.TheVariants as refusal
use Rattle.semantics.specs.declared.Step.TheVariants.{Read, Write, Work, Supply, Reset}
use Rattle.semantics.specs.declared.Answer.TheVariants.{Word, Units, Done, Refused}
use Rattle.semantics.specs.Encoding.{decoded_as, decode}
use Rattle.playback.specs.Playback.{playable, answer_code, room_after}

-- "A refusal gives its number beside the answer 0": the refusal from bit 32, the value from bit 0
pub answers_hold : map answer_code
    (Word 0 ∷ Word 0x1234 ∷ Word 0xFFFF ∷ Units 0 ∷ Units 1 ∷ Units 65535 ∷ Done ∷ Refused refusal.ArrayLength ∷ Refused refusal.Malformed ∷ Refused refusal.Address
    ∷ Refused refusal.WorkCount ∷ [])
    ≡ 0 ∷ 0x1234 ∷ 0xFFFF ∷ 0 ∷ 1 ∷ 65535 ∷ 0 ∷ 0x100000000 ∷ 0x200000000 ∷ 0x300000000 ∷ 0x400000000 ∷ []
answers_hold = refl

-- supply on, a write, a read, work, a reset: and then a number that encodes no step, before another that does
abbrev five : List ℕ
five = 0x3000000000001 ∷ 0x1001200000034 ∷ 0x34 ∷ 0x2000000000005 ∷ 0x4000000000000 ∷ 0x5000000000000 ∷ 0x34 ∷ []

-- up to that number, in their order, and no more than there is room for
pub playable_hold : (playable five 9 ≡ Supply true ∷ Write 0x34 0x12 ∷ Read 0x34 ∷ Work 5 ∷ Reset ∷ [])
    × (playable five 5 ≡ Supply true ∷ Write 0x34 0x12 ∷ Read 0x34 ∷ Work 5 ∷ Reset ∷ [])
    × (playable five 2 ≡ Supply true ∷ Write 0x34 0x12 ∷ []) × (playable five 0 ≡ []) × (playable [] 9 ≡ [])
    × (playable (0x5000000000000 ∷ 0x34 ∷ []) 9 ≡ [])
unfolding decoded_as decode playable
playable_hold = (refl, refl, refl, refl, refl, refl)

-- the answers from the first place on, and the places past them as they were
pub room_hold : (room_after (7 ∷ 8 ∷ 9 ∷ []) (Done ∷ Refused refusal.Address ∷ []) ≡ 0 ∷ 0x300000000 ∷ 9 ∷ [])
    × (room_after (7 ∷ 8 ∷ 9 ∷ []) [] ≡ 7 ∷ 8 ∷ 9 ∷ [])
    × (room_after (7 ∷ 8 ∷ []) (Word 5 ∷ Units 6 ∷ []) ≡ 5 ∷ 6 ∷ [])
unfolding room_after
room_hold = (refl, refl, refl)
