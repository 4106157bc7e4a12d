-- The work step: document 01, "Work, n", and document 02, item 1, for a buffer program. What it makes of the array is said for every location.
-- Assumes nothing.
use Rattle.std.specs.Prelude.{ℕ, ◌+◌, ◌-◌, min, cond, ◌&&◌, List, ltb, eqb, length, get_or}
use Rattle.std.specs.Int.Bits.{bit_and}
use Rattle.geometry.specs.declared.Geometry.{Geometry}
use Rattle.geometry.specs.Blocks.{start_of, size_of}
use Rattle.semantics.specs.declared.Running.{Running}
use Rattle.semantics.specs.declared.Running.TheVariants as running
use Rattle.semantics.specs.declared.Control.{Control}
use Rattle.semantics.specs.declared.Worked.{Worked}
use Rattle.semantics.specs.declared.State.{State}
use Rattle.semantics.specs.Numbers.{within}
use Rattle.semantics.specs.Tabulate.{tabulate}
use Rattle.semantics.specs.State.{geometry, set_activity, with_control, with_running, with_buffer, runs}
use Rattle.semantics.specs.Writing.{kept_if}

-- "a program ends at 1 unit and an erase at the size of its block", a buffer program at the number of its words: the units that are left
unfoldable pub units_left : Geometry → Running → ℕ
units_left g running.Idle = 0
units_left g (running.Program l w) = 1
units_left g (running.Erase b done) = size_of g b - done
units_left g (running.Buffer l n done) = n - done

-- "Up to n units, while something runs. .. The answer is the number of units done.": the lesser of n and the units left
unfoldable pub units_done : Geometry → Running → ℕ → ℕ
units_done g r n = min n (units_left g r)

-- what runs after m of its units
unfoldable pub running_after : Geometry → Running → ℕ → Running
running_after g running.Idle m = running.Idle
running_after g (running.Program l w) m = cond (ltb m 1) (running.Program l w) running.Idle
running_after g (running.Erase b done) m = cond (ltb (done + m) (size_of g b)) (running.Erase b (done + m)) running.Idle
running_after g (running.Buffer l n done) m = cond (ltb (done + m) n) (running.Buffer l n (done + m)) running.Idle

-- "A program's one unit ands the data into the word. An erase's unit sets the lowest word not yet done to FFFFh." Document 02, item 1: "One unit puts in one word, from the lowest
-- location up": the word at location L after m units, where x is the word there before them, and bs the buffer
unfoldable pub word_after : Geometry → List ℕ → Running → ℕ → ℕ → ℕ → ℕ
word_after g bs running.Idle m L x = x
word_after g bs (running.Program l w) m L x = cond (eqb L l && ltb 0 m) (bit_and x w) x
word_after g bs (running.Erase b done) m L x = cond (within (start_of g b + done) m L) 0xFFFF x
word_after g bs (running.Buffer l n done) m L x = cond (within (l + done) m L) (bit_and x (get_or bs (L - l) 0xFFFF)) x

-- the array after m units: as long as before, with that word at every location
unfoldable pub array_after : Geometry → List ℕ → Running → ℕ → List ℕ → List ℕ
array_after g bs r m xs = tabulate (length xs) (λ L. word_after g bs r m L (get_or xs L 0))

-- the buffer after a step in which what ran may end, by work or by the supply, where r runs after it: a buffer program's words are in use as long as it runs
unfoldable pub buffer_after : Running → Running → List ℕ → List ℕ
buffer_after running.Idle r bs = bs
buffer_after (running.Program l w) r bs = bs
buffer_after (running.Erase b done) r bs = bs
buffer_after (running.Buffer l n done) r bs = kept_if (runs r) bs

-- the control after up to n units, and how many were done
unfoldable pub worked_on : Geometry → Control → ℕ → Worked
worked_on g c n = record {
  control = set_activity c (with_running c.activity (running_after g c.activity.running (units_done g c.activity.running n)));
  units = units_done g c.activity.running n;
}

-- the state and the array after up to n units
unfoldable pub worked : State → ℕ → State
worked s n =
    with_buffer (with_control s (worked_on (geometry s) s.control n).control)
    (buffer_after s.control.activity.running (worked_on (geometry s) s.control n).control.activity.running s.buffer)

unfoldable pub worked_array : State → ℕ → List ℕ → List ℕ
worked_array s n xs = array_after (geometry s) s.buffer s.control.activity.running (units_done (geometry s) s.control.activity.running n) xs
