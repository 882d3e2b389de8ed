use Rattle.std.proofs.Common.{slice_set, refl, arith, length, ◌≡◌, ◌∙◌, ap, subst, sym, ◌<◌, ℕ, false}
use Rattle.l2_units.specs.Profile.{fsn_count}
use Rattle.l3_orders.specs.Grammar.{IsOrder}
use Rattle.set_model.specs.Changeover.{Coa, answered_link, changed_over, queued, left_by, left_link, reply_of}
use Rattle.set_model.specs.State.{LinkState, Profile, Settings, given, last_accepted}
use Rattle.set_model.proofs.Lists.{within, get_set_same, length_set}
use Rattle.set_model.proofs.SoundBack.{leaves}
use Rattle.set_model.proofs.SoundLink.{queues}
use Rattle.set_changeover.specs.Agreement.{StandsFor}
use Rattle.set_changeover.specs.Parts.{Up, Down, Settled, AtLink, IsOut, IsReach, kept_of}
use Rattle.set_changeover.proofs.States.{link_for}
use Rattle.set_changeover.proofs.Links.{IsHere, is_in, link_set, none_there, profile_of, reach_here, here_room, stands_for, whole_of, has_room_left, beside_out, beside_left, counted_set, out_at}
use Rattle.set_queues.proofs.Soundness.{room_left}
use Rattle.set_changeover.proofs.changeover.change_over.Given.{Over}
use Rattle.set_changeover.proofs.changeover.change_over.Goals as goal
use Rattle.set_changeover.proofs.changeover.change_over.Goals.{After-leave}

-- A LINK THAT IS UP is left and answered for
is_here : (o : Over) (c : After-leave o) → IsHere c.args.parts.now.links.items c.args.number Up
is_here o c = rw c.in-Some-Up.field-0-is at c.in-Some-Up.ensures.here

pub queue-requires-clause-room : goal.queue-requires-clause-room
queue-requires-clause-room o c =
    let h = is_here o (goal.at.queue-requires-clause-room o c).After-leave in
    has_room_left c.args.number c.args.parts.now c.leave.new.parts (c.requires.room h.known) c.leave.ensures.turns c.leave.ensures.bodies (beside_left _ _ c.args.number _ (c.leave.ensures.links h.link h.there) refl)

pub settle-requires : goal.settle-requires
settle-requires o c =
    let n = c.args.number in
    let h = is_here o (goal.at.settle-requires o c).After-leave in
    let links = c.args.parts.now.links.items in
    let is = c.leave.ensures.links h.link h.there in
    let many : length c.leave.new.parts.links.items ≡ length links = rw is (length_set _ _ _) in
    let out : AtLink n c.leave.new.parts.links.items IsOut = λ link there. grind (arith, is, get_set_same links n, h.known) in
    let beside = beside_left links c.leave.new.parts.links.items n _ is refl in
    let one = c.requires.counted n h.link h.there in
    record {
      whole = c.queue.ensures.whole;
      counted = rw c.queue.ensures.links (counted_set _ links c.leave.new.parts.links.items n _ c.requires.counted is (record { acked = one.acked; accepted = one.accepted }));
      reached =
          let a = c.requires.holds.1 in
          let there = is_in c.args.parts.now c.requires.holds.0 n Up a h in
          let left = get_set_same c.requires.holds.0.links n (left_link false (given c.requires.holds.0) there.link) (within c.requires.holds.0.links n there.link there.there) in
          let stands = c.queue.ensures.stands _ (c.leave.ensures.stands c.requires.holds.0 there.link there.there a) in
          subst (λ (p : Profile). IsReach p c.args.reached) (sym (stands.profiles n (left_link false (given c.requires.holds.0) there.link) left ∙ profile_of c.args.parts.now c.requires.holds.0 n there.link a there.there)) c.requires.reached;
      known = rw (c.queue.ensures.links, many) h.known;
      out = rw c.queue.ensures.links out;
      room = grind (arith, room_left, c.requires.room h.known, c.leave.ensures.turns, beside, c.queue.ensures.links, c.queue.ensures.elsewhere n (rw many h.known) out, c.queue.ensures.rooms, (whole_of c.args.parts.now c.requires.holds).as_many);
    }

pub returns-in-Some-Up : goal.returns-in-Some-Up
returns-in-Some-Up o c =
    let n = c.args.number in
    let h = is_here o (goal.at.returns-in-Some-Up o c).After-leave in
    record {
      stands = λ s a.
          let at = is_in c.args.parts.now s n Up a h in
          let link = at.link in
          let same = stands_for c.args.parts.now.links.items n c.from.result c.index.result.now c.from.ensures h.known c.index.ensures s.links link a.stands.links at.there in
          let fsn = c.last_accepted.ensures.value ∙ ap last_accepted same in
          let mid = left_by false n link s in
          let told = subst (λ (f : ℕ). StandsFor (kept_of c.queue.new.parts) (queued (Coa n f) mid)) fsn (c.queue.ensures.stands mid (c.leave.ensures.stands s link at.there a)) in
          let sound = queues (Coa n (last_accepted link)) mid (leaves false n link s (record { there = at.there; phase_is = at.phase_is }) a.sound) in
          rw (at.there, at.phase_is) (record { took_is = refl; stands = c.settle.ensures.stands (queued (Coa n (last_accepted link)) mid) (left_link false (given s) link) (get_set_same s.links n (left_link false (given s) link) (within s.links n link at.there)) refl (record { stands = told; sound = sound }) });
    }

-- one that was left settles
pub settle-requires-in-Some-Down-clause-room : goal.settle-requires-in-Some-Down-clause-room
settle-requires-in-Some-Down-clause-room o c =
    let h = rw c.in-Some-Down.field-0-is at c.in-Some-Down.ensures.here in
    here_room c.args.parts.now c.args.number 1 Down h refl (c.requires.room h.known)

pub returns-in-Some-Down : goal.returns-in-Some-Down
returns-in-Some-Down o c =
    let h = rw c.in-Some-Down.field-0-is at c.in-Some-Down.ensures.here in
    record { stands = λ s a. let at = is_in c.args.parts.now s c.args.number Down a h in rw (at.there, at.phase_is) (record { took_is = refl; stands = c.settle-in-Some-Down.ensures.stands s at.link at.there at.phase_is a }) }

-- one that settled is answered for again
pub queue-requires-in-Some-Settled-clause-room : goal.queue-requires-in-Some-Settled-clause-room
queue-requires-in-Some-Settled-clause-room o c =
    let h = rw c.in-Some-Settled.field-0-is at c.in-Some-Settled.ensures.here in
    let room = c.requires.room h.known in
    grind (arith, beside_out, out_at c.args.parts.now.links.items c.args.number Settled h refl, h.known, room)

pub returns-in-Some-Settled : goal.returns-in-Some-Settled
returns-in-Some-Settled o c =
    let n = c.args.number in
    let h = rw c.in-Some-Settled.field-0-is at c.in-Some-Settled.ensures.here in
    let same = stands_for c.args.parts.now.links.items n c.from-in-Some-Settled.result c.index-in-Some-Settled.result.now c.from-in-Some-Settled.ensures h.known c.index-in-Some-Settled.ensures in
    let now = c.queue-in-Some-Settled.new.parts in
    let known : n < length now.links.items = rw c.queue-in-Some-Settled.ensures.links h.known in
    record {
      stands = λ s a.
          let at = is_in c.args.parts.now s n Settled a h in
          let link = at.link in
          let told : StandsFor (kept_of now) (queued (reply_of n link) s) = rw (c.reply-order.ensures.order, same s.links link a.stands.links at.there) at (c.queue-in-Some-Settled.ensures.stands s a.stands) in
          let set = ap (λ (k : LinkState). slice_set now.links.items c.from-in-Some-Settled-2.result k) c.answer_late.ensures ∙ link_set now.links.items n c.from-in-Some-Settled-2.result c.index_mut.result.now c.from-in-Some-Settled-2.ensures known c.index_mut.ensures.value answered_link c.index_mut.result.now s.links link refl told.links at.there in
          rw (at.there, at.phase_is) (record { took_is = refl; stands = rw (set, told.routing) (link_for (kept_of now) (queued (reply_of n link) s) n link (answered_link link) s.routing told at.there refl refl) });
    }

-- the orders are of the set's grammar, and so is the number that settles a link
pub queue-requires-clause-order : goal.queue-requires-clause-order
queue-requires-clause-order o c =
    let n = c.args.number in
    let h = is_here o (goal.at.queue-requires-clause-order o c).After-leave in
    let s = c.requires.holds.0 in
    let a = c.requires.holds.1 in
    let at = is_in c.args.parts.now s n Up a h in
    let same = stands_for c.args.parts.now.links.items n c.from.result c.index.result.now c.from.ensures h.known c.index.ensures s.links at.link a.stands.links at.there in
    let left = c.leave.ensures.stands s at.link at.there a in
    let one : c.index.result.now.profile ≡ s.settings.profile = ap (λ (l : LinkState). l.profile) same ∙ (a.sound.links n at.link at.there).profile in
    let other : c.leave.new.parts.config.profile ≡ s.settings.profile = ap (λ (m : Settings). m.profile) left.settings in
    (c.requires.number, subst (λ (p : Profile). c.last_accepted.result < fsn_count p) (one ∙ sym other) c.last_accepted.ensures.few)

pub queue-requires-in-Some-Settled-clause-order : goal.queue-requires-in-Some-Settled-clause-order
queue-requires-in-Some-Settled-clause-order o c =
    let n = c.args.number in
    let h = rw c.in-Some-Settled.field-0-is at c.in-Some-Settled.ensures.here in
    let s = c.requires.holds.0 in
    let a = c.requires.holds.1 in
    let at = is_in c.args.parts.now s n Settled a h in
    let same = stands_for c.args.parts.now.links.items n c.from-in-Some-Settled.result c.index-in-Some-Settled.result.now c.from-in-Some-Settled.ensures h.known c.index-in-Some-Settled.ensures s.links at.link a.stands.links at.there in
    subst (λ (p : Profile). IsOrder p c.reply-order.result) (ap (λ (l : LinkState). l.profile) same ∙ profile_of c.args.parts.now s n at.link a at.there) c.reply-order.ensures.fits

pub settle-requires-in-Some-Down-clause-reached : goal.settle-requires-in-Some-Down-clause-reached
settle-requires-in-Some-Down-clause-reached o c =
    let h = rw c.in-Some-Down.field-0-is at c.in-Some-Down.ensures.here in
    reach_here c.args.parts.now c.args.number c.args.reached c.requires.holds h.known c.requires.reached

-- of no link of the set it's ignored
pub returns-in-None : goal.returns-in-None
returns-in-None o c = record { stands = λ s a. none_there c.args.parts.now s c.args.number (changed_over c.args.reached c.args.number) a (sym c.in-None.is ∙ c.phase_of.ensures.value) }

pub settle-requires-in-Some-Down-clause-out : goal.settle-requires-in-Some-Down-clause-out
settle-requires-in-Some-Down-clause-out o c =
    let h = rw c.in-Some-Down.field-0-is at c.in-Some-Down.ensures.here in
    out_at c.args.parts.now.links.items c.args.number Down h refl
