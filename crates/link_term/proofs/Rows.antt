-- ROWS OF TALKS, one after another, as the loops over the commands and over the timers carry them out. A loop keeps that
-- what is left of its row completes the whole, whatever comes of it (`Completes`): so there is one lemma for a talk more,
-- one for a talk that broke off, and one for the end, and no induction but the loop's own. Uses Talking.
use Rattle.std.proofs.Common.{refl, sym, subst, ◌≡◌, List, [], ◌∷◌, ◌++◌, map, Result, Ok}
use Rattle.std.specs.Result.{IsErrAnd}
use Rattle.set_events.specs.declared.history.Entry.{Entry}
use Rattle.set_events.specs.declared.fault.SetFault.{SetFault}
use Rattle.term_model.specs.Talk.{Talk, in_turn}
use Rattle.term_model.specs.Terminal.{Terminal, no_commands}
use Rattle.term_model.specs.declared.command.Commands.{Commands}
use Rattle.term_model.specs.Obeying.{commanded}
use Rattle.link_term.specs.Orders.{every_command, obeys_all}
use Rattle.link_term.specs.Talking.{Asked, Gains, Breaks, Talks}
use Rattle.link_term.proofs.Talking.{gains_none, talks_then, talks_broken}

-- what is left of a row completes the whole
abbrev pub Completes : {X : Type 0} → (X → Terminal → Talk Terminal) → List X → List X → Terminal → Terminal
    → Asked → Asked → Type 0
Completes step all rest t₀ t start so_far =
    (result : Result (Unit {0}) SetFault) (end : Asked) (after : Terminal)
    → Talks (in_turn (map step rest) t) result so_far end after
    → Talks (in_turn (map step all) t₀) result start end after

-- one more of them went
pub one_more : {X : Type 0} (step : X → Terminal → Talk Terminal) (all rest later : List X) (x : X) (t₀ t u : Terminal)
    (start so_far now : Asked) → rest ≡ x ∷ later → Completes step all rest t₀ t start so_far
    → Gains (step x t) so_far.made now.made u → now.faults ≡ so_far.faults → Completes step all later t₀ u start now
one_more step all rest later x t₀ t u start so_far now is completes gains same =
    λ result end after talks. completes result end after
    (subst (λ r. Talks (in_turn (map step r) t) result so_far end after) (sym is)
    (talks_then (step x t) (λ v. in_turn (map step later) v) result so_far now end u (λ done. after) gains same talks))

-- one of them broke off
pub one_broken : {X : Type 0} (step : X → Terminal → Talk Terminal) (all rest later : List X) (x : X) (t₀ t after : Terminal)
    (start so_far end : Asked) (result : Result (Unit {0}) SetFault) (fault : SetFault) → rest ≡ x ∷ later
    → Completes step all rest t₀ t start so_far → IsErrAnd result (λ e. e ≡ fault)
    → Breaks (step x t) so_far.made end.made → end.faults ≡ so_far.faults ++ fault ∷ []
    → Talks (in_turn (map step all) t₀) result start end after
one_broken step all rest later x t₀ t after start so_far end result fault is completes told breaks same =
    completes result end after
    (subst (λ r. Talks (in_turn (map step r) t) result so_far end after) (sym is)
    (talks_broken (step x t) (λ v. in_turn (map step later) v) result fault so_far end (λ done. after) told breaks same))

-- none is left
pub none_left : {X : Type 0} (step : X → Terminal → Talk Terminal) (all rest : List X) (t₀ t : Terminal)
    (start so_far : Asked) → rest ≡ [] → Completes step all rest t₀ t start so_far
    → Talks (in_turn (map step all) t₀) (Ok tt) start so_far t
none_left step all rest t₀ t start so_far is completes =
    completes (Ok tt) so_far t
    (subst (λ r. Talks (in_turn (map step r) t) (Ok tt) so_far so_far t) (sym is) (gains_none t so_far.made, refl))

-- the commands that waited, each where it was given
pub commands_taken : (commands : Commands) (t u after : Terminal) (result : Result (Unit {0}) SetFault)
    (start end : Asked) → commands ≡ t.commands → u ≡ record t { commands = no_commands }
    → Talks (obeys_all commands every_command u) result start end after → Talks (commanded t) result start end after
commands_taken commands t u after result start end were taken talks =
    subst (λ c. Talks (obeys_all c every_command (record t { commands = no_commands })) result start end after) were
    (subst (λ v. Talks (obeys_all commands every_command v) result start end after) taken talks)

-- none was given
pub none_given : (commands : Commands) (t : Terminal) (made : List Entry) (faults : List SetFault) → commands ≡ no_commands
    → Talks (obeys_all commands every_command t) (Ok tt) (record { made = made; faults = faults })
    (record { made = made; faults = faults }) t
none_given commands t made faults none =
    let at : Asked = record { made = made; faults = faults } in
    subst (λ c. Talks (obeys_all c every_command t) (Ok tt) at at t) (sym none) (gains_none t made, refl)
