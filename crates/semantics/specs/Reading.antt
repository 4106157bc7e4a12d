-- The status word and the read step: document 01, "Read, address." and "Status word."
-- Assumes nothing.
use Rattle.std.specs.Prelude.{ℕ, ◌+◌, Bool, true, false, not, cond, ◌&&◌, List, eqb, get_or}
use Rattle.geometry.specs.declared.Geometry.{Geometry}
use Rattle.geometry.specs.Blocks.{bank_of, bank_of_block, block_offset, bank_offset}
use Rattle.semantics.specs.declared.Mode.{Mode}
use Rattle.semantics.specs.declared.Mode.TheVariants.{Array, Status, Signature, Query}
use Rattle.semantics.specs.declared.Running.{Running}
use Rattle.semantics.specs.declared.Running.TheVariants as running
use Rattle.semantics.specs.declared.Activity.{Activity}
use Rattle.semantics.specs.declared.Flags.{Flags}
use Rattle.semantics.specs.declared.State.{State}
use Rattle.semantics.specs.declared.Place.{Place}
use Rattle.semantics.specs.declared.View.{View}
use Rattle.semantics.specs.State.{geometry, runs, program_suspended, erase_suspended}
use Rattle.semantics.specs.View.{place_of, view_at}

-- what runs is in bank k: a program in the bank of its location, a buffer program in that of its words, an erase in that of its block
unfoldable pub runs_in : Geometry → Running → ℕ → Bool
runs_in g running.Idle k = false
runs_in g (running.Program l w) k = eqb (bank_of g l) k
runs_in g (running.Erase b n) k = eqb (bank_of_block g b) k
runs_in g (running.Buffer l n d) k = eqb (bank_of g l) k

-- n where b holds, and else 0
abbrev pub bit_if : Bool → ℕ → ℕ
bit_if true n = n
bit_if false n = 0

-- "Upper byte 0. SR7 is 1 when nothing runs. SR6 erase suspended. SR2 program suspended. SR5, SR4, SR3, SR1 the flags. SR0 is 1 when
-- something runs, and in a bank other than the addressed one.": the word for a read in bank k, in the order and with the names of Table 9. That each line decides its own bit and
-- no other is shown in StatusBits
unfoldable pub status_word : Geometry → Activity → Flags → ℕ → ℕ
status_word g a f k =
    bit_if (not (runs a.running)) 0x80  -- SR7 P/EC status
    + bit_if (erase_suspended a.erase) 0x40  -- SR6 erase suspend status
    + bit_if f.sr5 0x20  -- SR5 erase/blank check status
    + bit_if f.sr4 0x10  -- SR4 program status
    + bit_if f.sr3 0x08  -- SR3 VPP status
    + bit_if (program_suspended a.program) 0x04  -- SR2 program suspend status
    + bit_if f.sr1 0x02  -- SR1 block protection status
    + bit_if (runs a.running && not (runs_in g a.running k)) 0x01  -- SR0 bank write status

-- "885Eh (top) or 885Fh (bottom)"
abbrev pub device_code : Geometry → ℕ
device_code g = cond g.top 0x885E 0x885F

-- "signature, 0020h at bank offset 0, 885Eh (top) or 885Fh (bottom) at bank offset 1, the configuration register at bank offset 5, and at block
-- offset 2 0001h protected or 0000h open; all other offsets 0000h"
unfoldable pub signature_word : Geometry → View → ℕ → ℕ
signature_word g v l =
    cond (eqb (bank_offset g l) 0) 0x0020
    (cond (eqb (bank_offset g l) 1) (device_code g)
    (cond (eqb (bank_offset g l) 5) v.control.configuration
    (cond (eqb (block_offset g l) 2) (bit_if (not v.unprotected) 0x0001)
    0x0000)))

-- "query, 51h, 52h, 59h at bank offsets 10h, 11h, 12h and 0000h elsewhere"
unfoldable pub query_word : ℕ → ℕ
query_word o = cond (eqb o 0x10) 0x51 (cond (eqb o 0x11) 0x52 (cond (eqb o 0x12) 0x59 0))

-- "By the mode of the bank: array, the word at the location, but the status word while an operation runs in that bank (H); status, the status word; signature ..;
-- query ..". The mode that decides what is shown: array mode shows what status mode does while an operation runs in the bank
unfoldable pub shown : Geometry → Running → ℕ → Mode → Mode
shown g r k Array = cond (runs_in g r k) Status Array
shown g r k Status = Status
shown g r k Signature = Signature
shown g r k Query = Query

-- and what that mode shows
unfoldable pub shows_by : Geometry → View → List ℕ → Place → Mode → ℕ
shows_by g v xs p Array = get_or xs p.location 0
shows_by g v xs p Status = status_word g v.control.activity v.control.flags p.bank
shows_by g v xs p Signature = signature_word g v p.location
shows_by g v xs p Query = query_word (bank_offset g p.location)

-- the word that a read at a place shows
unfoldable pub read_in : Geometry → View → List ℕ → Place → ℕ
read_in g v xs p = shows_by g v xs p (shown g v.control.activity.running p.bank v.mode)

-- and at an address
unfoldable pub read_word : State → List ℕ → ℕ → ℕ
read_word s xs address = read_in (geometry s) (view_at s (place_of (geometry s) address)) xs (place_of (geometry s) address)
