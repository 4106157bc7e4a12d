-- What the supply (VPP) ends: document 02, item 5. It overrules document 01's "Supply is looked at only when an operation is accepted (H)".
-- Assumes nothing.
use Rattle.std.specs.Prelude.{Bool, true, false, cond}
use Rattle.semantics.specs.declared.Running.{Running}
use Rattle.semantics.specs.declared.Running.TheVariants as running
use Rattle.semantics.specs.declared.Flags.{Flags}
use Rattle.semantics.specs.declared.Control.{Control}
use Rattle.semantics.specs.State.{set_activity, set_flags, set_supply, with_running, flags_of, no_flags, joined}

-- "with SR3 and SR4 for a program, SR3 and SR5 for an erase": a buffer program is a program
unfoldable pub end_flags : Running → Flags
end_flags running.Idle = no_flags
end_flags (running.Program l w) = flags_of false true true false
end_flags (running.Erase b n) = flags_of true false true false
end_flags (running.Buffer l n d) = flags_of false true true false

-- "a running operation ends then and there": it gets no further unit, and those that it had stay done; its flags are set beside those that were
unfoldable pub ended : Control → Control
ended c = set_flags (set_activity c (with_running c.activity running.Idle)) (joined c.flags (end_flags c.activity.running))

-- what runs ends where supply is off; with supply on nothing changes
unfoldable pub ended_if_unsupplied : Control → Control
ended_if_unsupplied c = cond c.supply c (ended c)

-- "When supply goes off, a running operation ends then and there .. Suspended ones stay". A set-up that is pending stays, and supply on ends and resumes nothing. Where supply was off
-- already nothing runs in a well-formed state, and nothing ends
unfoldable pub switched : Control → Bool → Control
switched c on = ended_if_unsupplied (set_supply c on)
