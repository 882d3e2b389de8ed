-- THE FIRST LINE of a history that is printed: what the set was opened with, as the first line of a script says it of
-- an end a that is this set.
use Rattle.std.specs.Prelude.{◌≡◌, ◌<◌, ◌≤◌, ◌^◌, ◌%◌, ℕ, true, List, [], ◌∷◌, ◌++◌, Option, Some, codes, decimal}
use Rattle.std.specs.Option.{option_map}
use Rattle.l2_units.specs.declared.profile.Profile.{Profile}
use Rattle.l2_units.specs.declared.profile.Profile.TheVariants.{Narrow, Wide}
use Rattle.set_events.specs.Method.{is_method}
use Rattle.set_events.specs.declared.config.Method.{Method}
use Rattle.set_events.specs.declared.config.Method.TheVariants.{Basic, Cyclic}
use Rattle.set_events.specs.declared.history.Entry.{Entry}
use Rattle.set_model.specs.State.{Settings}
use Rattle.text_base.specs.Figures.{hex_text}
use Rattle.text_forms.specs.declared.opened.Values.{Values}
use Rattle.text_forms.specs.Opening.{first_line}
use Rattle.text_entries.specs.Entries.{entries_text}

abbrev pub method_text : Method → List ℕ
method_text Basic = codes "basic"
method_text (Cyclic n1 n2) = codes "cyclic:" ++ (decimal n1 ++ (codes ":" ++ decimal n2))

-- the narrow profile has no word, as in a script whose first line says nothing of it
abbrev pub profile_text : Profile → List ℕ
profile_text Narrow = []
profile_text Wide = codes " profile=wide"

-- its own point code stands as a's, the far end's as b's
abbrev pub settings_text : Settings → List ℕ
settings_text s =
    codes "set links=" ++ (decimal s.links ++ (codes " method=" ++ (method_text s.method
    ++ (codes " a=" ++ (decimal s.opc ++ (codes " b=" ++ (decimal s.dpc
    ++ (codes " sio=" ++ (hex_text (s.sio ∷ []) ++ profile_text s.profile)))))))))

-- THE TEXT OF A HISTORY: that line, and its entries, a line each
abbrev pub history_text : Settings → List Entry → List ℕ
history_text s entries = settings_text s ++ (codes "\n" ++ entries_text s.profile entries)

-- what the first line of a script opens end a with
abbrev pub own_settings : Values → Settings
own_settings v = record {
  set = 0;
  links = v.links;
  method = v.method;
  profile = v.profile;
  sio = v.sio;
  dpc = v.code_b;
  opc = v.code_a;
}

abbrev pub settings_in : List ℕ → Option Settings
settings_in line = option_map own_settings (first_line line)

-- what a set can be opened with; the line doesn't tell its number, which is read as 0
pub record SettingsFit (s : Settings) : Type 0 where
  pub numbered : s.set ≡ 0
  pub has_links : 1 ≤ s.links
  pub links_in_range : s.links ≤ 16
  pub opc_in_range : s.opc < 2 ^ 14
  pub dpc_in_range : s.dpc < 2 ^ 14
  pub management : s.sio % 16 ≡ 0
  pub octet : s.sio < 2 ^ 8
  pub limits_in_range : is_method s.profile s.method ≡ true

-- THE LAW: the line is read back as what was written, so no other configuration has it
abbrev pub IsReadBack : Type 0
IsReadBack = (s : Settings) → SettingsFit s → settings_in (settings_text s) ≡ Some s

abbrev pub OneLine : Type 0
OneLine =
    (a b : Settings) → SettingsFit a → SettingsFit b → settings_text a ≡ settings_text b → a ≡ b
