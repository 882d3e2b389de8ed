-- What the first line's reader gave, beside the definition.
use Rattle.std.specs.Prelude.{◌≡◌, ℕ, List, Some}
use Rattle.set_events.specs.declared.config.SetConfig.{SetConfig}
use Rattle.text_forms.specs.declared.opened.Opening.{Opening}
use Rattle.text_forms.specs.declared.opened.Values.{Values}
use Rattle.text_forms.specs.Opening.{first_line, fitting}

-- an end, set 0, with its own point code and the far end's
pub record IsEnd (values : Values) (own far : ℕ) (config : SetConfig) : Type 0 where
  pub profile_is : config.profile ≡ values.profile
  pub set_is : config.set ≡ 0
  pub links_is : config.links ≡ values.links
  pub method_is : config.method ≡ values.method
  pub sio_is : config.sio ≡ values.sio
  pub opc_is : config.opc ≡ own
  pub dpc_is : config.dpc ≡ far

-- both ends are made of these values
pub record IsMadeOf (values : Values) (opening : Opening) : Type 0 where
  pub fit : fitting values ≡ Some values
  pub end_a : IsEnd values values.code_a values.code_b opening.a
  pub end_b : IsEnd values values.code_b values.code_a opening.b

-- both ends are made of the values of the first line
pub record IsOpening (text : List ℕ) (opening : Opening) : Type 0 where
  pub values : Values
  pub read : first_line text ≡ Some values
  pub made : IsMadeOf values opening
