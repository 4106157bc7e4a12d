-- The recorder (document 01: clerk) and the journal that it draws up: document 01, "The journal", and document 02, item 1, for a buffer program, and item 5, for the
-- supply, and nothing else. It is told the part and, of each step, which of the five it is and its numbers. No device, array or answer enters: the device's definitions are not
-- used here.
-- Of `base`, `len` and `put` the recorder uses `len` alone, for the units that an entry lacks; `base` and `put` serve the proof. What an entry makes of a word is
-- said by `reading`.
-- Assumes nothing.
use mathlib.Core.List.{List, [], ◌∷◌, map, foldl, reverse}
use Rattle.std.specs.Prelude.{Bool, true, false, cond, not, ◌&&◌, ◌||◌, ℕ, ◌+◌, ◌-◌, ◌%◌, ltb, leb, eqb, length, get_or, set, replicate}
use Rattle.std.specs.Int.Bits.{bit_and}
use Rattle.geometry.specs.declared.Geometry.{Geometry}
use Rattle.geometry.specs.Blocks.{location, block_of, start_of, size_of}
use Rattle.semantics.specs.Numbers.{within}
use Rattle.semantics.specs.declared.Step.{Step}
use Rattle.semantics.specs.declared.Step.TheVariants.{Read, Write, Work, Supply, Reset}
use Rattle.semantics.specs.Entries.{Entry, entry, running, is_finished, Kinds, worked, paused, resumed, broken_off, any_runs, any_suspended}

-- ---- the journal, and what it makes of a word

-- "a program's location and data or an erase's block"; of a buffer program the location that its words start at, and the words: "Journal entries of this kind cover several
-- words"
pub data Operation : Type 0 where
  program : ℕ → ℕ → Operation
  erase : ℕ → Operation
  buffer : ℕ → List ℕ → Operation

module _ (g : Geometry) where
  -- the first word of an operation: for the proof
  abbrev pub base : Operation → ℕ
  base (program l w) = l
  base (erase b) = start_of g b
  base (buffer l ws) = l

  -- the units of an operation: "1 (program) or .. its block's words (erase)"; of a buffer program "One unit puts in one word"
  abbrev pub len : Operation → ℕ
  len (program l w) = 1
  len (erase b) = size_of g b
  len (buffer l ws) = length ws

  -- what a unit makes of the word x at its place i: for the proof
  abbrev pub put : Operation → ℕ → ℕ → ℕ
  put (program l w) i x = bit_and x w
  put (erase b) i x = 0xFFFF
  put (buffer l ws) i x = bit_and x (get_or ws i 0xFFFF)

  -- the three together, as Entries takes them
  abbrev pub kinds : Kinds
  kinds = record { K = Operation; base = base; len = len; put = put }

  -- what an operation that received u units, finished or not, makes of the word x at location L. Demand 3: "Finished
  -- program: data anded in; unfinished: nothing. Finished erase: FFFFh; unfinished: FFFFh in as many of the block's
  -- lowest words as it had units." Document 02, item 1: "an unfinished one has reached as many of its lowest as it had
  -- units"
  abbrev pub made : Operation → Bool → ℕ → ℕ → ℕ → ℕ
  made (program l w) true u L x = cond (eqb L l) (bit_and x w) x
  made (program l w) false u L x = x
  made (erase b) true u L x = cond (eqb (block_of g L) b) 0xFFFF x
  made (erase b) false u L x = cond (eqb (block_of g L) b && ltb (L - start_of g b) u) 0xFFFF x
  made (buffer l ws) true u L x = cond (within l (length ws) L) (bit_and x (get_or ws (L - l) 0xFFFF)) x
  made (buffer l ws) false u L x = cond (within l u L) (bit_and x (get_or ws (L - l) 0xFFFF)) x

  -- what an entry makes of it
  abbrev pub reading : Entry Operation → ℕ → ℕ → ℕ
  reading (entry k u t) L x = made k (is_finished t) u L x

  -- the journal "applied in order of acceptance" to the word x at location L: the recorder has the latest entry first
  abbrev pub applied : List (Entry Operation) → ℕ → ℕ → ℕ
  applied j L x = foldl (λ y e. reading e L y) x (reverse j)

-- ---- the recorder

-- the set-up that is pending. Of the load of a buffer program: its block, and its count is due; its block and number of words, and its first data cycle is due; the location
-- that its words start at, the words, and so many data cycles are due, with 0 of them the confirming cycle
pub data Setup : Type 0 where
  no_setup program_setup erase_setup lock_setup : Setup
  count_setup : ℕ → Setup
  first_setup : ℕ → ℕ → Setup
  words_setup : ℕ → List ℕ → ℕ → Setup

-- "supply, the open blocks, the set-up"
pub record Conditions : Type 0 where
  pub supply : Bool
  pub unprotected : ℕ → Bool
  pub setup : Setup

pub record Recorder : Type 0 where
  pub conditions : Conditions
  pub journal : List (Entry Operation)

-- "He begins with supply off, no block open, no set-up and no entry."
abbrev pub no_conditions : Conditions
no_conditions = record { supply = false; unprotected = λ b. false; setup = no_setup }

abbrev pub beginning : Recorder
beginning = record { conditions = no_conditions; journal = [] }

-- what a step comes to for the recorder. `setup_is s`: the pending set-up is s from here on. `unprotected_is b v`: block b is unprotected (v true) or protected
-- (v false) from here on, and the set-up ends. `accept k`: an entry of k is added, and the set-up ends. `end-program`, `end-erase`: the suspended one is broken off
pub data Event : Type 0 where
  nothing : Event
  supplied : Bool → Event
  was_reset : Event
  units : ℕ → Event
  suspend : Event
  resume_program resume_erase end_program end_erase : Event
  setup_is : Setup → Event
  unprotected_is : ℕ → Bool → Event
  accept : Operation → Event

abbrev pub is_erase : Operation → Bool
is_erase (program l w) = false
is_erase (erase b) = true
is_erase (buffer l ws) = false

abbrev pub is_program : Operation → Bool
is_program k = not (is_erase k)

abbrev pub is_any : Operation → Bool
is_any k = true

abbrev pub is_none : Operation → Bool
is_none k = false

-- the commands of a write with no set-up that bear on the journal
pub data Command : Type 0 where
  suspend_command resume_command program_command lock_command erase_command buffer_command other_command : Command

abbrev pub command_of : ℕ → Command
command_of c =
    cond (eqb c 0xB0) suspend_command
    (cond (eqb c 0xD0) resume_command
    (cond (eqb c 0x10 || eqb c 0x40) program_command
    (cond (eqb c 0x60) lock_command
    (cond (eqb c 0x20) erase_command
    (cond (eqb c 0xE8) buffer_command other_command)))))

module _ (g : Geometry) where
  -- the block that an operation lies in
  abbrev pub block_in : Operation → ℕ
  block_in (program l w) = block_of g l
  block_in (erase b) = b
  block_in (buffer l ws) = block_of g l

  abbrev pub is_erase_of : ℕ → Operation → Bool
  is_erase_of b k = is_erase k && eqb (block_in k) b

  -- The rules. `runs`: an entry is running. `held p`: an entry whose operation is p is suspended.
  module _ (d : Conditions) (runs : Bool) (held : (Operation → Bool) → Bool) where
    -- "if supply is on, the block open and no erase of it suspended"
    abbrev pub acceptable : ℕ → Bool
    acceptable b = d.supply && (d.unprotected b && not (held (is_erase_of b)))

    -- "Write, no set-up: B0h suspends what runs. If nothing runs, D0h sets the suspended program running, else the suspended erase; 10h and 40h
    -- (program) and 60h (lock) become the set-up if no program is suspended, 20h (erase) if nothing is. Else nothing." "E8h is taken when 40h is": with its block b. Document 02,
    -- item 5, of what D0h would set running: "resumed without supply, they end .. Demand 3 counts such an entry as unfinished": it is broken off
    abbrev pub first_cycle_event : ℕ → Command → Event
    first_cycle_event b suspend_command = cond runs suspend nothing
    first_cycle_event b resume_command =
        cond runs nothing
        (cond (held is_program) (cond d.supply resume_program end_program)
        (cond (held is_erase) (cond d.supply resume_erase end_erase) nothing))
    first_cycle_event b program_command = cond (runs || held is_program) nothing (setup_is program_setup)
    first_cycle_event b lock_command = cond (runs || held is_program) nothing (setup_is lock_setup)
    first_cycle_event b erase_command = cond (runs || held is_any) nothing (setup_is erase_setup)
    first_cycle_event b buffer_command = cond (runs || held is_program) nothing (setup_is (count_setup b))
    first_cycle_event b other_command = nothing

    -- the set-up is s from here on where the cycle is right, and ends where it is wrong
    abbrev pub goes_on : Bool → Setup → Event
    goes_on right s = cond right (setup_is s) (setup_is no_setup)

    -- "Buffer Program (E8h, word count less one, the words, then D0h) by section 4.9": all in the block of E8h, the words in a run from the first on, of two data for one word
    -- the later, FFFFh for a word that was given none; at D0h accepted as a program is. At location l, command c, data w
    abbrev pub count_cycle : ℕ → ℕ → ℕ → Event
    count_cycle b l w = goes_on (eqb (block_of g l) b && leb w 31) (first_setup b (w + 1))

    abbrev pub first_word_cycle : ℕ → ℕ → ℕ → ℕ → Event
    first_word_cycle b n l w = goes_on (eqb (block_of g l) b && leb (l + n) (start_of g b + size_of g b)) (words_setup l (set (replicate n 0xFFFF) 0 w) (n - 1))

    abbrev pub later_word_cycle : ℕ → List ℕ → ℕ → ℕ → ℕ → Event
    later_word_cycle s ws due l w = goes_on (within s (length ws) l) (words_setup s (set ws (l - s) w) (due - 1))

    abbrev pub confirm_cycle_event : ℕ → List ℕ → ℕ → ℕ → Event
    confirm_cycle_event s ws l c = cond ((eqb c 0xD0 && eqb (block_of g l) (block_of g s)) && acceptable (block_of g l)) (accept (buffer s ws)) (setup_is no_setup)

    -- "Write, set-up: it ends. Lock: the protection commands D0h and 01h open and shut the block. Program with any data, erase with D0h: if supply is
    -- on, the block open and no erase of it suspended, a running entry with 0 units is added. Else nothing.": at location l, command c, data w
    abbrev pub cycle : Setup → ℕ → ℕ → ℕ → Event
    cycle no_setup l c w = first_cycle_event (block_of g l) (command_of c)
    cycle lock_setup l c w = cond (eqb c 0xD0) (unprotected_is (block_of g l) true) (cond (eqb c 0x01) (unprotected_is (block_of g l) false) (setup_is no_setup))
    cycle program_setup l c w = cond (acceptable (block_of g l)) (accept (program l w)) (setup_is no_setup)
    cycle erase_setup l c w = cond (eqb c 0xD0 && acceptable (block_of g l)) (accept (erase (block_of g l))) (setup_is no_setup)
    cycle (count_setup b) l c w = count_cycle b l w
    cycle (first_setup b n) l c w = first_word_cycle b n l w
    cycle (words_setup s ws due) l c w = cond (eqb due 0) (confirm_cycle_event s ws l c) (later_word_cycle s ws due l w)

    -- "An address of 16,777,216 or more, a work count above 65,535, any read: nothing."
    abbrev pub rule : Step → Event
    rule (Read a) = nothing
    rule (Write a w) = cond (ltb a 16777216) (cycle d.setup (location g a) (w % 256) w) nothing
    rule (Work n) = cond (leb n 65535) (units n) nothing
    rule (Supply on) = supplied on
    rule Reset = was_reset

-- what an event makes of the conditions. "Supply: noted." "Reset: every block is shut, the set-up ends"
abbrev pub conditions_after : Event → Conditions → Conditions
conditions_after nothing d = d
conditions_after (supplied on) d = record { supply = on; unprotected = d.unprotected; setup = d.setup }
conditions_after was_reset d = record { supply = d.supply; unprotected = λ b. false; setup = no_setup }
conditions_after (units n) d = d
conditions_after suspend d = d
conditions_after resume_program d = d
conditions_after resume_erase d = d
conditions_after end_program d = d
conditions_after end_erase d = d
conditions_after (setup_is s) d = record { supply = d.supply; unprotected = d.unprotected; setup = s }
conditions_after (unprotected_is b v) d = record { supply = d.supply; unprotected = λ c. cond (eqb c b) v (d.unprotected c); setup = no_setup }
conditions_after (accept k) d = record { supply = d.supply; unprotected = d.unprotected; setup = no_setup }

-- all that is under way is broken off; what runs; and what is suspended and is p
abbrev pub all_broken : Entry Operation → Entry Operation
all_broken = broken_off true is_any

abbrev pub running_broken : Entry Operation → Entry Operation
running_broken = broken_off true is_none

abbrev pub suspended_broken : (Operation → Bool) → Entry Operation → Entry Operation
suspended_broken p = broken_off false p

module _ (g : Geometry) where
  -- what an event makes of the journal. Reset: "what runs or is suspended is broken off". "Work n: the running entry, if any, gets the lesser of n
  -- and the units it lacks of 1 (program) or of its block's words (erase). Lacking none, it is finished." Document 02, item 5: "When supply goes off, a running operation ends then
  -- and there .. Suspended ones stay .. Demand 3 counts such an entry as unfinished": read as broken off, of the four phases
  abbrev pub journal_after : Event → List (Entry Operation) → List (Entry Operation)
  journal_after nothing j = j
  journal_after (supplied true) j = j
  journal_after (supplied false) j = map running_broken j
  journal_after was_reset j = map all_broken j
  journal_after (units n) j = map (worked (kinds g) n) j
  journal_after suspend j = map paused j
  journal_after resume_program j = map (resumed is_program) j
  journal_after resume_erase j = map (resumed is_erase) j
  journal_after end_program j = map (suspended_broken is_program) j
  journal_after end_erase j = map (suspended_broken is_erase) j
  journal_after (setup_is s) j = j
  journal_after (unprotected_is b v) j = j
  journal_after (accept k) j = entry k 0 running ∷ j

  -- the event of a step, from the recorder's own journal
  abbrev pub event : Step → Recorder → Event
  event x c = rule g c.conditions (any_runs c.journal) (λ p. any_suspended p c.journal) x

  abbrev pub recorded : Recorder → Step → Recorder
  recorded c x = record { conditions = conditions_after (event x c) c.conditions; journal = journal_after (event x c) c.journal }

  abbrev pub recorded_all : Recorder → List Step → Recorder
  recorded_all c [] = c
  recorded_all c (x ∷ l) = recorded_all (recorded c x) l

  -- the journal of a list of steps from power-up, latest entry first
  abbrev pub journal_of : List Step → List (Entry Operation)
  journal_of l = (recorded_all beginning l).journal
