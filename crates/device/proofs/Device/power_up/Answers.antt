-- `Device::power_up` meets its contract. Assumes nothing.
use mathlib.Core.Path.{ap}
use Rattle.device.specs.Outcomes.{holding}
use Rattle.device.proofs.Device.power_up.Goals as goal

pub returns : goal.returns
returns c = record { device = ap holding c.power_up.ensures; counts = c.clear.ensures }
