-- Lines and their steps, and of each place of a line of each form the bytes that may stand there, each as one table
-- under one statement: the checker computes each through the definitions. A wrong entry is refused.
-- Assumes nothing.
use Rattle.std.specs.Prelude.{ℕ, Bool, true, false, ◌&&◌, List, [], ◌∷◌, ◌≡◌, refl, T, set, Option, Some, None}
use Prim.Native.Char.{code}
use Prim.Native.String.{String, [] as none, ◌∷◌ as first}
use Rattle.semantics.specs.declared.Step.{Step}
use Rattle.semantics.specs.declared.Step.TheVariants.{Read, Write, Work, Supply, Reset}
use Rattle.semantics.specs.Exactly.{exactly}
use Rattle.line.specs.Forms.{hex_value, digits, number, begins, is_read, is_write, is_work, is_supply, is_reset}
use Rattle.line.specs.Forms.{step_of_line}

infix 20 ◌⟶◌
-- a line, and its step
pub data Example : Type 0 where
  ◌⟶◌ : String → Option Step → Example

-- the bytes of a text: one for each character, since these texts are ASCII
abbrev pub bytes : String → List ℕ
bytes none = []
bytes (first c s) = code c ∷ bytes s

abbrev pub steps : List Example → List (Option Step)
steps [] = []
steps ((line ⟶ d) ∷ l) = step_of_line (bytes line) ∷ steps l

abbrev pub expected : List Example → List (Option Step)
expected [] = []
expected ((line ⟶ d) ∷ l) = d ∷ expected l

abbrev pub examples : List Example
examples =
    -- the script of document 01, each line once
    ("V 1" ⟶ Some (Supply true))
    ∷ ("W 000040 0060" ⟶ Some (Write 0x40 0x60))
    ∷ ("W 000040 00D0" ⟶ Some (Write 0x40 0xD0))
    ∷ ("W 000041 0040" ⟶ Some (Write 0x41 0x40))
    ∷ ("W 000041 1234" ⟶ Some (Write 0x41 0x1234))
    ∷ ("R 000041" ⟶ Some (Read 0x41))
    ∷ ("K 5" ⟶ Some (Work 5))
    ∷ ("W 000000 00FF" ⟶ Some (Write 0 0xFF))
    ∷ ("R 004041" ⟶ Some (Read 0x4041))
    ∷ ("K 99999" ⟶ Some (Work 99999))
    -- the other forms
    ∷ ("V 0" ⟶ Some (Supply false))
    ∷ ("Z" ⟶ Some Reset)
    ∷ ("K 0" ⟶ Some (Work 0))
    ∷ ("W FFFFFF ABCD" ⟶ Some (Write 0xFFFFFF 0xABCD))
    -- each digit, and each place of a number: the highest digit first
    ∷ ("R 012345" ⟶ Some (Read 0x012345))
    ∷ ("R 6789AB" ⟶ Some (Read 0x6789AB))
    ∷ ("R CDEF01" ⟶ Some (Read 0xCDEF01))
    ∷ ("W FEDCBA 9876" ⟶ Some (Write 0xFEDCBA 0x9876))
    ∷ ("W 543210 F00D" ⟶ Some (Write 0x543210 0xF00D))
    ∷ ("W 000000 0000" ⟶ Some (Write 0 0))
    ∷ ("K 1" ⟶ Some (Work 1))
    ∷ ("K 10" ⟶ Some (Work 10))
    ∷ ("K 234" ⟶ Some (Work 234))
    ∷ ("K 5678" ⟶ Some (Work 5678))
    ∷ ("K 90123" ⟶ Some (Work 90123))
    ∷ ("K 65535" ⟶ Some (Work 65535))
    ∷ ("K 65536" ⟶ Some (Work 65536))
    -- near misses
    ∷ ("R 00004a" ⟶ None)
    ∷ ("r 000041" ⟶ None)
    ∷ ("R  000041" ⟶ None)
    ∷ ("R 00041" ⟶ None)
    ∷ ("R" ⟶ None)
    ∷ ("W 000041  1234" ⟶ None)
    ∷ ("W 000041 01234" ⟶ None)
    ∷ ("K 05" ⟶ None)
    ∷ ("K 00" ⟶ None)
    ∷ ("K 100000" ⟶ None)
    ∷ ("K A" ⟶ None)
    ∷ ("V 2" ⟶ None)
    ∷ ("Z " ⟶ None)
    ∷ ("V 1\r" ⟶ None)
    ∷ ("" ⟶ None)
    -- a form with a digit less or more, with none, and with two forms' parts
    ∷ ("R " ⟶ None)
    ∷ ("R 0000041" ⟶ None)
    ∷ ("R 000041 1234" ⟶ None)
    ∷ ("R000041" ⟶ None)
    ∷ ("W 000041" ⟶ None)
    ∷ ("W 000041 " ⟶ None)
    ∷ ("W 000041 123" ⟶ None)
    ∷ ("W 000041 12345" ⟶ None)
    ∷ ("W 00041 1234" ⟶ None)
    ∷ ("W 0000041 1234" ⟶ None)
    ∷ ("W 0000411234" ⟶ None)
    ∷ ("K" ⟶ None)
    ∷ ("K " ⟶ None)
    ∷ ("K5" ⟶ None)
    ∷ ("K 01" ⟶ None)
    ∷ ("K 00000" ⟶ None)
    ∷ ("K 000000" ⟶ None)
    ∷ ("K 123456" ⟶ None)
    ∷ ("V" ⟶ None)
    ∷ ("V " ⟶ None)
    ∷ ("V1" ⟶ None)
    ∷ ("V 01" ⟶ None)
    ∷ ("V 10" ⟶ None)
    ∷ ("ZZ" ⟶ None)
    ∷ ("Z 0" ⟶ None)
    ∷ (" Z" ⟶ None)
    ∷ (" R 000041" ⟶ None)
    -- a space or a CR at the end of each
    ∷ ("R 000041 " ⟶ None)
    ∷ ("W 000041 1234 " ⟶ None)
    ∷ ("K 5 " ⟶ None)
    ∷ ("V 1 " ⟶ None)
    ∷ ("R 000041\r" ⟶ None)
    ∷ ("W 000041 1234\r" ⟶ None)
    ∷ ("K 5\r" ⟶ None)
    ∷ ("Z\r" ⟶ None)
    -- "A line over 16 bytes": of 16, 17 and more, that begin as a form does, and in blanks
    ∷ ("W 000041 1234 00" ⟶ None)
    ∷ ("W 000041 1234 000" ⟶ None)
    ∷ ("R 00004100000000" ⟶ None)
    ∷ ("R 000041000000000" ⟶ None)
    ∷ ("K 55555555555555" ⟶ None)
    ∷ ("K 555555555555555" ⟶ None)
    ∷ ("V 11111111111111" ⟶ None)
    ∷ ("V 111111111111111" ⟶ None)
    ∷ ("ZZZZZZZZZZZZZZZZ" ⟶ None)
    ∷ ("ZZZZZZZZZZZZZZZZZ" ⟶ None)
    ∷ ("V 1              " ⟶ None)
    ∷ ("Z                  " ⟶ None)
    ∷ []

pub examples_hold : steps examples ≡ expected examples
unfolding hex_value digits number begins is_read is_write is_work is_supply is_reset step_of_line
examples_hold = refl

-- ---- places

-- a line of a form, a place of it, and those of the 256 bytes that may stand there instead, from the lowest up, so
-- that it is still of a form
pub data Place : Type 0 where
  place : String → ℕ → String → Place

abbrev pub is_form : Option Step → Bool
is_form (Some x) = true
is_form None = false

abbrev pub every : List Place → Bool
every [] = true
every (place line at s ∷ l) = exactly (λ b. is_form (step_of_line (set (bytes line) at b))) (bytes s) && every l

abbrev hexes : String
hexes = "0123456789ABCDEF"

abbrev pub places : List Place
places =
    -- "upper-case hex, single spaces": `R` and 6 hex digits
    place "R 000041" 0 "R" ∷ place "R 000041" 1 " "
    ∷ place "R 000041" 2 hexes ∷ place "R 000041" 3 hexes ∷ place "R 000041" 4 hexes ∷ place "R 000041" 5 hexes ∷ place "R 000041" 6 hexes ∷ place "R 000041" 7 hexes
    -- `W`, 6 digits, 4 digits
    ∷ place "W 000041 1234" 0 "W" ∷ place "W 000041 1234" 1 " "
    ∷ place "W 000041 1234" 2 hexes ∷ place "W 000041 1234" 3 hexes ∷ place "W 000041 1234" 4 hexes ∷ place "W 000041 1234" 5 hexes ∷ place "W 000041 1234" 6 hexes ∷ place "W 000041 1234" 7 hexes
    ∷ place "W 000041 1234" 8 " "
    ∷ place "W 000041 1234" 9 hexes ∷ place "W 000041 1234" 10 hexes ∷ place "W 000041 1234" 11 hexes ∷ place "W 000041 1234" 12 hexes
    -- `K` and 1 to 5 decimal digits without leading zero, which one digit alone may be. With one digit it is as long
    -- as `V 0` and `V 1`
    ∷ place "K 5" 0 "K" ∷ place "K 1" 0 "KV" ∷ place "K 5" 1 " " ∷ place "K 5" 2 "0123456789"
    ∷ place "K 99" 0 "K" ∷ place "K 99" 1 " " ∷ place "K 99" 2 "123456789" ∷ place "K 99" 3 "0123456789"
    ∷ place "K 99999" 0 "K" ∷ place "K 99999" 1 " " ∷ place "K 99999" 2 "123456789" ∷ place "K 99999" 3 "0123456789" ∷ place "K 99999" 4 "0123456789" ∷ place "K 99999" 5 "0123456789"
    ∷ place "K 99999" 6 "0123456789"
    -- `V 0` or `V 1`; `Z`
    ∷ place "V 1" 0 "KV" ∷ place "V 1" 1 " " ∷ place "V 1" 2 "01"
    ∷ place "Z" 0 "Z"
    ∷ []

pub places_hold : T (every places)
unfolding hex_value digits number begins is_read is_write is_work is_supply is_reset step_of_line
places_hold = tt
