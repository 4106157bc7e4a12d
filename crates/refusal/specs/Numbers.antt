-- The number that a refusal has on the card: document 01, "Refusal card", for 1 to 7; document 02, item 3, for 10 to 14 and 17.
-- Assumes nothing.
use Rattle.std.specs.Prelude.{ℕ}
use Rattle.refusal.specs.declared.Refusal.{Refusal}
use Rattle.refusal.specs.declared.Refusal.TheVariants.{ArrayLength, Malformed, Address, WorkCount, NoBlock, NoStep, NoPart, RecordForm, RecordSum, RecordType, OutsideArray, NoEndRecord, RoomLength}

abbrev pub number : Refusal → ℕ
-- "array length is not 256u"
number ArrayLength = 1
-- "state not well made"
number Malformed = 2
-- "address 16,777,216 or more"
number Address = 3
-- "work count above 65,535"
number WorkCount = 4
-- "location lies in no block"
number NoBlock = 5
-- "script line not one of the forms below"
number NoStep = 6
-- "part number above 3"
number NoPart = 7
-- "record malformed (also a 01 or 04 of other offset or length)"
number RecordForm = 10
-- "sum wrong"
number RecordSum = 11
-- "other type"
number RecordType = 12
-- "byte outside the array or offset passed"
number OutsideArray = 13
-- "no end record"
number NoEndRecord = 14
-- "writing, 17 text too short"
number RoomLength = 17
