-- Who asks and tells a set what.
use Rattle.std.specs.Prelude.{◌≡◌}
use Rattle.set_events.specs.declared.event.Actor.{Actor}
use Rattle.set_events.specs.declared.event.Actor.TheVariants.{User, Terminal}
use Rattle.set_events.specs.declared.event.Event.{Event}
use Rattle.set_events.specs.declared.event.Event.TheVariants.{Offer, Take, Find, Next, Heard, Up, Down, DownBlind, NoAnswer, Timed, Restore, Redeclare, BackTimeout, Test}

-- WHOSE AN EVENT IS: a user offers, takes and finds; a terminal asks and tells of its own link.
abbrev pub IsOwn : Actor → Event → Type 0
IsOwn (User number) (Offer body) = Unit {0}
IsOwn (User number) Take = Unit {0}
IsOwn (User number) (Find message) = Unit {0}
IsOwn (Terminal number) (Next link) = link ≡ number
IsOwn (Terminal number) (Heard link unit) = link ≡ number
IsOwn (Terminal number) (Up link) = link ≡ number
IsOwn (Terminal number) (Down link) = link ≡ number
IsOwn (Terminal number) (DownBlind link) = link ≡ number
IsOwn (Terminal number) (NoAnswer link) = link ≡ number
IsOwn (Terminal number) (Timed link) = link ≡ number
IsOwn (Terminal number) (Restore link) = link ≡ number
IsOwn (Terminal number) (Redeclare link) = link ≡ number
IsOwn (Terminal number) (BackTimeout link) = link ≡ number
IsOwn (Terminal number) (Test link) = link ≡ number
IsOwn _ _ = ⊥
