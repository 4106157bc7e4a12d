-- The arrays of a device's state have their lengths, by what a function is told of a parameter. Each path goes to a field, in the order of the declaration.
-- Assumes nothing.
use mathlib.Core.List.{List}
use mathlib.Core.Path.{◌≡◌}
use lib.ListN.{length}
use mir.Val.{Val}
use denote.Laws.{Is}
use denote.Struct.Declared.{row}
use Rattle.device.specs.contracts.Device as device_type
use Rattle.device.specs.declared.Device.{Device}

pub five : (d : Device) (vs : List Val) → Is (row device_type.the_type) d vs → length d.state.unprotected ≡ 5
five d vs p = let q = p.1.1.0.1.1 in q.1.1.0.1.0.1

pub sixteen : (d : Device) (vs : List Val) → Is (row device_type.the_type) d vs → length d.state.banks ≡ 16
sixteen d vs p = let q = p.1.1.0.1.1 in q.1.0.1.0.1

pub thirty_two : (d : Device) (vs : List Val) → Is (row device_type.the_type) d vs → length d.state.buffer ≡ 32
thirty_two d vs p = let q = p.1.1.0.1.1 in q.1.1.1.1.0.1.0.1
