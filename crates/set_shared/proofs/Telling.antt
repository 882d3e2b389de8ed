-- What is told of what stands under the lock.
use Rattle.std.proofs.Common.{Result, Ok, Err}
use Rattle.std.specs.Prelude.{OnOk}

-- what follows from what is known where it went well
pub then_ok : {T E P Q : Type 0} (r : Result T E) → (P → Q) → OnOk r P → OnOk r Q
then_ok (Ok x) f p = f p
then_ok (Err e) f p = tt
