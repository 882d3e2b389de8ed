use Rattle.std.proofs.Common.{arith, ◌≡◌, ◌∙◌, ap, List, ℕ}
use Rattle.set_queues.specs.Messages.{unsent_of}
use Rattle.set_route.specs.Routing.{place_of}
use Rattle.set_model.specs.Rows.{stream_of}
use Rattle.set_model.specs.State.{Profile, Settings, State, fate_at}
use Rattle.set_model.specs.Step.{Accepted, offer_refusal, refusal_by}
use Rattle.set_changeover.specs.Agreement.{Kept, StandsFor}
use Rattle.set_changeover.specs.Parts.{kept_of}
use Rattle.set_changeover.proofs.Links.{agrees_same}
use Rattle.set_traffic.proofs.Counts.{unsent_is}
use Rattle.set_traffic.proofs.offering.offer.Goals as goal

same_refusal : (k : Kept) (s : State) (body : List ℕ) → StandsFor k s → refusal_by k.settings.profile (unsent_of (stream_of body) k.messages) body ≡ offer_refusal s.settings.profile s.rows body
same_refusal k s body f = ap (λ n. refusal_by k.settings.profile n body) (unsent_is (stream_of body) k.lists k.messages s.rows f.stands) ∙ ap (λ (m : Settings). offer_refusal m.profile s.rows body) f.settings

pub returns-in-Some-clause-ok : goal.returns-in-Some-clause-ok
returns-in-Some-clause-ok o c = λ s a. rw (← same_refusal (kept_of c.args.parts.now) s c.args.octets.now a.stands, ← (c.refusal_of.ensures ∙ ap (λ (p : Profile). refusal_by p (unsent_of (stream_of c.args.octets.now) c.args.parts.now.queues.messages) c.args.octets.now) c.profile.ensures), c.in-Some.is) (record { answer_is = c.set_refused.ensures; stands = a.stands })

pub returns-clause-ok : goal.returns-clause-ok
returns-clause-ok o c = λ s a.
    let now = agrees_same c.args.parts.now c.make_room.new.parts s c.in_ok-make_room.ensures.same a in
    let fate = c.fate_of_new-fate.ensures.value s a.stands ∙ ap (λ stream. fate_at (place_of stream s.routing) s) c.stream_of_body-stream.ensures.value in
    let stands = rw fate at (c.stand_last-number.ensures.stands s now.stands) in
    rw (← same_refusal (kept_of c.args.parts.now) s c.args.octets.now a.stands, ← (c.refusal_of.ensures ∙ ap (λ (p : Profile). refusal_by p (unsent_of (stream_of c.args.octets.now) c.args.parts.now.queues.messages) c.args.octets.now) c.profile.ensures), c.in_default.is) (record {
      answer_is = c.set_accepted.ensures ∙ ap Accepted (c.stand_last-number.ensures.number ∙ now.stands.given_out);
      stands = grind (arith, stands, c.accept.ensures, c.stream_of_body-stream.ensures.value);
    })
