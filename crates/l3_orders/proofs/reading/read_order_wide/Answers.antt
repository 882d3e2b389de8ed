use Rattle.std.proofs.Common.{rules, arith, ℕ, List, slice_index, Fits, w8, ◌<◌}
use Rattle.l2_units.specs.declared.profile.Profile.TheVariants.{Wide}
use Rattle.l3_orders.proofs.Texts.{found_stands}
use Rattle.l3_orders.proofs.reading.read_order_wide.Goals as goal

octet : (octets : List ℕ) (i : ℕ) → Fits w8 (slice_index octets i) → slice_index octets i < 256
octet octets i fits = omega (arith, fits)

pub returns-clause-exact : goal.returns-clause-exact
returns-clause-exact c = search rules

pub returns-clause-found : goal.returns-clause-found
returns-clause-found c =
    found_stands Wide c.args.octets.now c.wide_order_after.result (λ i. octet c.args.octets.now i (c.type_inv.octets i)) (returns-clause-exact c)
