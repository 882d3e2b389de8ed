-- A TERMINAL'S FAULT: the one that its door answered last.
use Rattle.std.specs.Prelude.{◌≡◌, List, [], ◌∷◌, ◌++◌}
use Rattle.set_events.specs.declared.fault.SetFault.{SetFault}
use Rattle.link_term.specs.declared.fault.TermFault.{TermFault}
use Rattle.link_term.specs.Faults.{fault_of}

pub record HasBroken (fault : TermFault) (faults faults' : List SetFault) : Type 0 where
  pub told : SetFault
  pub fault_is : fault ≡ fault_of told
  pub faults_are : faults' ≡ faults ++ told ∷ []
