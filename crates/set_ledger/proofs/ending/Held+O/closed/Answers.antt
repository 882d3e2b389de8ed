use Rattle.std.proofs.Common.{arith, ◌≡◌, ℕ, ◌∙◌, ap, sym, subst, length}
use Rattle.set_ledger.specs.Seats.{SeatState}
use Rattle.set_ledger.specs.Ending.{AreFaithful}
use Rattle.set_ledger.specs.Openings.{IsBaseBehind}
use Rattle.set_ledger.specs.Totals.{HeldState}
use Rattle.set_ledger.proofs.Closing.{complete_lengths, told_truly, whole_sum, whole_sums, closes}
use Rattle.set_ledger.proofs.Telling.{settings_told}
use Rattle.set_ledger.proofs.ending.Held+O.closed.Goals as goal

pub returns-clause-base : goal.returns-clause-base
returns-clause-base g c = c.into_base_and_history-base.ensures.base ∙ ap (λ (h : HeldState). h.set.base) c.self.view_is

pub returns-clause-opened : goal.returns-clause-opened
returns-clause-opened g c =
    let us = c.args.users.items in
    let ts = c.args.terminals.items in
    let rest = c.self.inside.rest in
    let complete = complete_lengths c.args.self.users c.args.self.links us ts c.requires.complete in
    let many : length us ≡ c.args.self.users = complete.0 in
    let many_links : length ts ≡ c.args.self.links = complete.1 in
    let users_are : c.self.inside.users ≡ c.args.self.users = ap (λ (h : HeldState). h.users) c.self.view_is in
    let links_are : c.self.inside.links ≡ c.args.self.links = ap (λ (h : HeldState). h.links) c.self.view_is in
    let cut = c.self.invariant.1.checkpoints_cut in
    rw (c.into_base_and_history-base.ensures.base) (subst (λ (n : ℕ). IsBaseBehind g.O.Opening.settings n c.self.inside.core.base)
    (whole_sums (λ (seat : SeatState). seat.checkpoints) us ts _ _ _ _ _ _ _ _ rest.no_parts.5 rest.no_amount.5 c.merge_users.ensures.checkpoints c.merge_terminals.ensures.checkpoints (omega (arith, users_are, links_are, many, many_links, cut)) c.audit-6.ensures.whole)
    c.self.invariant.2)

pub returns-clause-opening : goal.returns-clause-opening
returns-clause-opening g c = settings_told c.config-config.result.now c.self.inside.core.base g.O.Opening.settings c.config-config.ensures c.self.invariant.2.is_base

-- all seats are there, so together they have every part of each ledger
pub returns-clause-closed : goal.returns-clause-closed
returns-clause-closed g c =
    let us = c.args.users.items in
    let ts = c.args.terminals.items in
    let held = c.self.view_is in
    let rest = c.self.inside.rest in
    let complete = complete_lengths c.args.self.users c.args.self.links us ts c.requires.complete in
    let users_are : c.self.inside.users ≡ c.args.self.users = ap (λ (h : HeldState). h.users) held in
    let links_are : c.self.inside.links ≡ c.args.self.links = ap (λ (h : HeldState). h.links) held in
    let many : length us ≡ c.args.self.users = complete.0 in
    let many_links : length ts ≡ c.args.self.links = complete.1 in
    let faithful : AreFaithful c.self.inside.core.base.books c.self.inside.core.history us ts = subst (λ (h : HeldState). AreFaithful h.set.base.books h.set.history us ts) (sym held) c.requires.faithful in
    let totals = c.self.invariant.0 in
    let cut = c.self.invariant.1 in
    let calls_cut = cut.calls_cut in
    let messages_cut = cut.messages_cut in
    let octets_cut = cut.octets_cut in
    let acked_cut = cut.acknowledged_cut in
    rw (c.into_base_and_history-base.ensures.base, c.into_base_and_history-base.ensures.history) (closes us ts c.self.inside.core c.books-books.result c.counts-counts.result
    c.self.inside.calls.total c.self.inside.messages.total c.self.inside.octets.total c.self.inside.acknowledged.total
    c.replays.ensures.legal c.replays.ensures.agrees c.books-books.ensures.value c.counts-counts.ensures.value faithful c.counts-counts.ensures.all c.books-books.ensures.bounded totals
    (whole_sums (λ (seat : SeatState). seat.share.calls) us ts _ _ _ _ _ _ _ _ rest.no_parts.0 rest.no_amount.0 c.merge_users.ensures.calls c.merge_terminals.ensures.calls (omega (arith, users_are, links_are, many, many_links, calls_cut)) c.audit.ensures.whole)
    (whole_sum (λ (seat : SeatState). seat.share.messages) us _ _ _ _ _ _ rest.no_parts.1 rest.no_amount.1 c.merge_users.ensures.messages (omega (arith, users_are, many, messages_cut)) c.audit-2.ensures.whole)
    (whole_sum (λ (seat : SeatState). seat.share.octets) us _ _ _ _ _ _ rest.no_parts.2 rest.no_amount.2 c.merge_users.ensures.octets (omega (arith, users_are, many, octets_cut)) c.audit-3.ensures.whole)
    (whole_sum (λ (seat : SeatState). seat.share.acknowledged) ts _ _ _ _ _ _ rest.no_parts.3 rest.no_amount.3 c.merge_terminals.ensures.acknowledged (omega (arith, links_are, many_links, acked_cut)) c.audit-4.ensures.whole)
    (told_truly c.self.inside.core us c.self.inside.full.total _ _ _ _ c.merge_terminals.new.full.amount c.self.invariant.3 c.replays.ensures.short c.merge_users.ensures.full c.merge_terminals.ensures.full.amount_stays c.audit-5.ensures.bound)
    (told_truly c.self.inside.core ts c.self.inside.full.total _ _ _ _ c.merge_terminals.new.full.amount c.self.invariant.3 c.replays.ensures.short c.merge_terminals.ensures.full (omega arith) c.audit-5.ensures.bound))
