-- Settings tell one configuration from another.
use Rattle.std.proofs.Common.{◌≡◌, ap, subst, true, ◌<◌, ◌≤◌, ◌^◌, ◌%◌}
use Rattle.std.proofs.Props.{props}
use Rattle.set_events.specs.Method.{is_method}
use Rattle.set_events.specs.declared.config.SetConfig.{SetConfig}
use Rattle.set_model.specs.State.{Settings, settings_of}

-- what a configuration keeps of its numbers
abbrev InRange : Settings → Type 0
InRange s = (1 ≤ s.links) × (s.links ≤ 16) × (s.opc < 2 ^ 14) × (s.dpc < 2 ^ 14) × (s.sio % 16 ≡ 0) × (is_method s.profile s.method ≡ true)

in_range_is_prop : (s : Settings) → IsProp (InRange s)
in_range_is_prop s = hlevel props

abbrev in_range : (config : SetConfig) → InRange (settings_of config)
in_range config = (config.has_links, config.links_in_range, config.opc_in_range, config.dpc_in_range, config.management, config.limits_in_range)

abbrev config_of : (s : Settings) → InRange s → SetConfig
config_of s r = record { set = s.set; links = s.links; opc = s.opc; dpc = s.dpc; sio = s.sio; method = s.method; profile = s.profile; has_links = r.0; links_in_range = r.1; opc_in_range = r.2; dpc_in_range = r.3; management = r.4; limits_in_range = r.5 }

pub same_config : (one other : SetConfig) → settings_of one ≡ settings_of other → one ≡ other
same_config one other e =
    subst (λ (s : Settings). (r : InRange s) → one ≡ config_of s r) e
    (λ r. ap (config_of (settings_of one)) (in_range_is_prop (settings_of one) (in_range one) r)) (in_range other)
