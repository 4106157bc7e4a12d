-- The numbers of the card, row by row, computed. Assumes nothing.
use Rattle.std.specs.Prelude.{List, [], ◌∷◌, map, ◌≡◌, refl}
use Rattle.refusal.specs.declared.Refusal.{Refusal}
use Rattle.refusal.specs.declared.Refusal.TheVariants.{ArrayLength, Malformed, Address, WorkCount, NoBlock, NoStep, NoPart, RecordForm, RecordSum, RecordType, OutsideArray, NoEndRecord, RoomLength}
use Rattle.refusal.specs.Numbers.{number}

-- in the order of documents 01 and 02
abbrev pub every : List Refusal
every =
    ArrayLength ∷ Malformed ∷ Address ∷ WorkCount ∷ NoBlock ∷ NoStep ∷ NoPart
    ∷ RecordForm ∷ RecordSum ∷ RecordType ∷ OutsideArray ∷ NoEndRecord ∷ RoomLength
    ∷ []

pub numbers_hold : map number every ≡ 1 ∷ 2 ∷ 3 ∷ 4 ∷ 5 ∷ 6 ∷ 7 ∷ 10 ∷ 11 ∷ 12 ∷ 13 ∷ 14 ∷ 17 ∷ []
numbers_hold = refl
