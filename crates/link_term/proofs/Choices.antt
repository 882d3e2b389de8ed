-- STEP 5 OF A TURN, as its calls carry it out: each choice of a unit comes to what `term_model` says of it, with the bits
-- that were appended and what the tap was told. Each lemma is one record rebuilt, by a test that is rewritten (`subst`) or
-- by a talk that went before; no induction. Uses Talking.
use Rattle.std.proofs.Common.{refl, sym, subst, ap, ◌≡◌, ◌∙◌, true, false, nat_lt, length, List, [], ◌∷◌, ◌++◌, Some, None, Result, Ok, Err, if◌then◌else◌}
use Rattle.l2_units.specs.declared.unit.Unit.{Unit as SignalUnit}
use Rattle.l2_units.specs.Grammar.{head_of}
use Rattle.set_events.specs.declared.answer.Answer.{Answer}
use Rattle.set_events.specs.declared.event.Actor.{Actor}
use Rattle.set_events.specs.declared.event.Event.{Event}
use Rattle.set_events.specs.declared.fault.SetFault.{SetFault}
use Rattle.set_events.specs.declared.history.Entry.{Entry}
use Rattle.term_model.specs.Choosing.{Filled, chosen, counts_sent, filled, given, held_back, is_narrow, sends}
use Rattle.term_model.specs.OctetOut.{Appends}
use Rattle.term_model.specs.Talk.{Talk, done, ask, and_then}
use Rattle.term_model.specs.Terminal.{Terminal}
use Rattle.link_term.specs.declared.counts.Filling.{Filling}
use Rattle.link_term.specs.Filling.{FillsBits, Fills, Taps}
use Rattle.link_term.specs.Talking.{Asked, AtDoor, Gains}
use Rattle.link_term.proofs.Talking.{gains_none, gains_asked, gains_joined, breaks_at_last}

-- eight bits or more are left
pub none_chosen : (t : Terminal) (made : List Entry) {T : Type 0} (tells : T → SignalUnit → T → Type 0) (tap tap' : T) → nat_lt (length t.bits) 8 ≡ false
    → Taps tells None tap tap' → FillsBits (filled t) Filling.Enough made made t tells tap tap'
none_chosen t made tells tap tap' long none = record {
  chosen = record { unit = None; narrow = true; after = t };
  gains = subst (λ b. Gains (if b then chosen t.state t else done (record { unit = None; narrow = true; after = t })) made made (record { unit = None; narrow = true; after = t }))
      (sym long) (gains_none (record { unit = None; narrow = true; after = t }) made);
  appends = refl;
  after_is = refl;
  filling_is = refl;
  unchanged = λ wide. refl;
  told = none;
  untold = λ wide. none;
}

-- a unit that the set wasn't asked for
pub own_sent : (unit : SignalUnit) (t after : Terminal) (made : List Entry) {T : Type 0} (tells : T → SignalUnit → T → Type 0) (tap tap' : T)
    → Appends (Some unit) t.bits after.bits → after ≡ record t { bits = after.bits; last = Some (head_of unit) }
    → Taps tells (Some unit) tap tap' → FillsBits (sends unit t) Filling.Chosen made made after tells tap tap'
own_sent unit t after made tells tap tap' appends is told =
    let sent : Filled = record { unit = Some unit; narrow = true; after = record t { last = Some (head_of unit) } } in
    record { chosen = sent; gains = gains_none sent made; appends = appends; after_is = is; filling_is = refl; unchanged = λ wide. absurd cc; told = told; untold = λ wide. absurd cc }

-- a talk went before, and then the choice
pub fills_then : (talk : Talk Terminal) (next : Terminal → Talk Filled) (filling : Filling) (made mid made' : List Entry)
    (t after : Terminal) {T : Type 0} (tells : T → SignalUnit → T → Type 0) (tap tap' : T)
    → Gains talk made mid t → FillsBits (next t) filling mid made' after tells tap tap'
    → FillsBits (and_then talk next) filling made made' after tells tap tap'
fills_then talk next filling made mid made' t after tells tap tap' first fills = record {
  chosen = fills.chosen;
  gains = gains_joined talk next made mid made' t fills.chosen first fills.gains;
  appends = fills.appends;
  after_is = fills.after_is;
  filling_is = fills.filling_is;
  unchanged = fills.unchanged;
  told = fills.told;
  untold = fills.untold;
}

-- which may break off
pub sends_then : (talk : Talk Terminal) (next : Terminal → Talk Filled) (result : Result Filling SetFault)
    (before mid : Asked) (t : Terminal) (after : AtDoor) {T : Type 0} (tells : T → SignalUnit → T → Type 0) (tap tap' : T)
    → Gains talk before.made mid.made t → mid.faults ≡ before.faults → Fills (next t) result mid after tells tap tap'
    → Fills (and_then talk next) result before after tells tap tap'
sends_then talk next (Ok it) before mid t after tells tap tap' first same second = (
  fills_then talk next it before.made mid.made after.asked.made t after.inside tells tap tap' first second.0,
  second.1 ∙ same,
)
sends_then talk next (Err fault) before mid t after tells tap tap' first same second = (
  breaks_at_last talk next before.made mid.made after.asked.made t first second.0,
  second.1 ∙ ap (λ (fs : List SetFault). fs ++ fault ∷ []) same,
  second.2,
)

-- an event is asked, and the choice is made by the answer
pub asked_first : (event : Event) (more : Answer → Talk Filled) (who : Actor) (answer : Answer) (filling : Filling)
    (made mid made' : List Entry) (after : Terminal) {T : Type 0} (tells : T → SignalUnit → T → Type 0) (tap tap' : T)
    → mid ≡ made ++ record { who = who; event = event; answer = answer } ∷ []
    → FillsBits (more answer) filling mid made' after tells tap tap'
    → FillsBits (ask event more) filling made made' after tells tap tap'
asked_first event more who answer filling made mid made' after tells tap tap' is fills = record {
  chosen = fills.chosen;
  gains = gains_asked event more who answer made mid made' fills.chosen is fills.gains;
  appends = fills.appends;
  after_is = fills.after_is;
  filling_is = fills.filling_is;
  unchanged = fills.unchanged;
  told = fills.told;
  untold = fills.untold;
}

-- a choice that comes to this one
pub as_chosen : (talk choice : Talk Filled) (filling : Filling) (made made' : List Entry) (after : Terminal)
    {T : Type 0} (tells : T → SignalUnit → T → Type 0) (tap tap' : T) → choice ≡ talk
    → FillsBits talk filling made made' after tells tap tap' → FillsBits choice filling made made' after tells tap tap'
as_chosen talk choice filling made made' after tells tap tap' same fills =
    subst (λ t. FillsBits t filling made made' after tells tap tap') (sym same) fills

-- a unit of the wide profile
pub wide_given : (t : Terminal) (made : List Entry) {T : Type 0} (tells : T → SignalUnit → T → Type 0) (tap tap' : T) → Taps tells None tap tap'
    → FillsBits (done (record { unit = None; narrow = false; after = t })) Filling.Wide made made t tells tap tap'
wide_given t made tells tap tap' none = record {
  chosen = record { unit = None; narrow = false; after = t };
  gains = gains_none (record { unit = None; narrow = false; after = t }) made;
  appends = refl;
  after_is = refl;
  filling_is = refl;
  unchanged = λ wide. refl;
  told = none;
  untold = λ wide. none;
}

-- which is told apart by the unit's header
pub given_wide : (unit : SignalUnit) (t : Terminal) (made : List Entry) {T : Type 0} (tells : T → SignalUnit → T → Type 0) (tap tap' : T)
    → is_narrow (head_of unit) ≡ false → Taps tells None tap tap' → FillsBits (given unit t) Filling.Wide made made t tells tap tap'
given_wide unit t made tells tap tap' wide none =
    subst (λ b. FillsBits (if b then and_then (counts_sent unit t) (λ t. sends (held_back t unit) t) else done (record { unit = None; narrow = false; after = t })) Filling.Wide made made t tells tap tap')
    (sym wide) (wide_given t made tells tap tap' none)

-- any other is counted, and appended
pub given_narrow : (unit : SignalUnit) (t counted after : Terminal) (made made' : List Entry) {T : Type 0} (tells : T → SignalUnit → T → Type 0) (tap tap' : T)
    → is_narrow (head_of unit) ≡ true → counts_sent unit t ≡ done counted
    → FillsBits (sends (held_back counted unit) counted) Filling.Chosen made made' after tells tap tap'
    → FillsBits (given unit t) Filling.Chosen made made' after tells tap tap'
given_narrow unit t counted after made made' tells tap tap' narrow is fills =
    subst (λ b. FillsBits (if b then and_then (counts_sent unit t) (λ t. sends (held_back t unit) t) else done (record { unit = None; narrow = false; after = t })) Filling.Chosen made made' after tells tap tap')
    (sym narrow)
    (subst (λ talk. FillsBits (and_then talk (λ t. sends (held_back t unit) t)) Filling.Chosen made made' after tells tap tap') (sym is) fills)
