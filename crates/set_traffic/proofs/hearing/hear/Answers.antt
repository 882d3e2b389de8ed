use Rattle.std.proofs.Common.{arith, ◌≡◌, ◌∙◌, ap, sym, subst, refl, true, ℕ}
use Rattle.l2_units.specs.Grammar.{head_of as header_in}
use Rattle.l2_units.specs.Lent.{unit_in}
use Rattle.set_model.specs.Control.{HeardPart, part_of}
use Rattle.set_model.specs.Sound.{IsSound}
use Rattle.set_model.specs.State.{LinkState, Profile, Settings, State, window_of}
use Rattle.set_model.specs.Step.{SignalUnit, Took, is_heard, HeardBack, heard as heard_of, controls, after_control, report_of, is_msu}
use Rattle.set_changeover.specs.Agreement.{Kept, StandsFor, Agrees}
use Rattle.set_changeover.specs.Parts.{Up, kept_of}
use Rattle.set_changeover.proofs.Links.{IsHere, is_in, served}
use Rattle.set_model.proofs.SoundLink.{hears_sound}
use Rattle.set_traffic.specs.Traffic.{brought_by}
use Rattle.set_changeover.specs.declared.parts.Parts.{Parts}
use Rattle.set_traffic.proofs.Traffic.{body_fits, numbers_fit, queue_there}
use Rattle.set_traffic.proofs.hearing.hear.Given.{Over}
use Rattle.set_traffic.proofs.hearing.hear.Goals as goal
use Rattle.set_traffic.proofs.hearing.hear.Goals.{After-control_hears-part}

-- the link of a state that agreed, what its control told, and the state after it, which the parts agree with
module _ (o : Over) (c : After-control_hears-part o) (s : State) (a : Agrees (kept_of c.args.parts.now) s) where
  at : IsHere s.links c.args.number Up
  at = is_in c.args.parts.now s c.args.number Up a c.in_default.ensures.here

  stood : StandsFor (kept_of c.make_space.new.parts) s
  stood = rw c.in_ok-brought.ensures.same a.stands

  told : c.control_hears-part.result ≡ part_of at.link.control (window_of c.args.number at.link s.rows) (header_in (unit_in c.args.unit.now)) (is_msu (unit_in c.args.unit.now))
  told = c.control_hears-part.ensures.part s at.link at.there stood

  after : Agrees (kept_of c.control_hears-part.new.parts) (after_control c.control_hears-part.result (header_in (unit_in c.args.unit.now)) (unit_in c.args.unit.now) c.args.number s at.link)
  after = record {
    stands = c.control_hears-part.ensures.stands s at.link at.there stood;
    sound = subst (λ part. IsSound (after_control part (header_in (unit_in c.args.unit.now)) (unit_in c.args.unit.now) c.args.number s at.link)) (sym told) (hears_sound c.args.number at.link s (record { there = at.there; phase_is = at.phase_is }) a.sound (unit_in c.args.unit.now));
  }

is_so : (o : Over) (c : After-control_hears-part o) → is_heard c.args.parts.now.config.profile (unit_in c.args.unit.now) ≡ true
is_so o c = grind (arith, c.is_heard.ensures, c.profile.ensures, c.if-not-is_heard.false)

pub make_space-requires-clause-few : goal.make_space-requires-clause-few
make_space-requires-clause-few o c = body_fits c.args.parts.now.config.profile c.args.unit.now (grind (arith, c.is_heard.ensures, c.profile.ensures, c.if-not-is_heard.false))

pub control_hears-part-requires-clause-queue : goal.control_hears-part-requires-clause-queue
control_hears-part-requires-clause-queue o c = queue_there c.make_space.new.parts c.args.number (rw c.in_ok-brought.ensures.same c.requires.holds) (rw c.in_ok-brought.ensures.links c.in_default.ensures.here.known)

pub control_hears-part-requires-clause-fits : goal.control_hears-part-requires-clause-fits
control_hears-part-requires-clause-fits o c =
    let so : is_heard c.args.parts.now.config.profile (unit_in c.args.unit.now) ≡ true = grind (arith, c.is_heard.ensures, c.profile.ensures, c.if-not-is_heard.false) in
    numbers_fit c.make_space.new.parts c.args.number (unit_in c.args.unit.now) (rw c.in_ok-brought.ensures.same c.requires.holds) (rw c.in_ok-brought.ensures.links c.in_default.ensures.here.known) (ap (λ (k : Kept). is_heard k.settings.profile (unit_in c.args.unit.now)) c.in_ok-brought.ensures.same ∙ so)

pub take_in-took-requires-clause-holds : goal.take_in-took-requires-clause-holds
take_in-took-requires-clause-holds o c = (_, after o (goal.at.take_in-took-requires-clause-holds o c).After-control_hears-part c.requires.holds.0 c.requires.holds.1)

-- a unit that is heard is the control's
is_controls : (unit : SignalUnit) (n : ℕ) (s : State) (link : LinkState) → is_heard s.settings.profile unit ≡ true → heard_of unit n s link ≡ controls unit n s link
is_controls unit n s link e = rw e refl

same_profile : {A : Type 0} (parts : Parts A) (s : State) → Agrees (kept_of parts) s → parts.config.profile ≡ s.settings.profile
same_profile parts s a = ap (λ (m : Settings). m.profile) a.stands.settings

-- a report says of the fault what the control found
reported : (part : HeardPart) (took : Took) → record { acked = part.acked; took = took; asked = part.asked; resend = part.resend; fault = part.fault } ≡ report_of part took
reported part took = grind arith

pub returns-clause-ok : goal.returns-clause-ok
returns-clause-ok o c = λ s a.
    let n = c.args.number in
    let unit = (unit_in c.args.unit.now) in
    let so = (goal.at.returns-clause-ok o c).After-control_hears-part in
    let i = at o so s a in
    let obeys = c.take_in-took.ensures unit _ (c.in_ok-brought.ensures.brought ∙ ap (λ (p : Profile). brought_by p unit) (same_profile c.args.parts.now s a)) (after o so s a) in
    served s n (heard_of unit n s) _ c.take_in-took.new.parts i
    (rw (is_controls unit n s i.link (sym (ap (λ (p : Profile). is_heard p unit) (same_profile c.args.parts.now s a)) ∙ is_so o so), ← told o so s a) (record { answer_is = c.set_heard.ensures ∙ ap HeardBack (reported c.control_hears-part.result c.take_in-took.result ∙ ap (report_of c.control_hears-part.result) obeys.took_is); stands = obeys.stands }))
