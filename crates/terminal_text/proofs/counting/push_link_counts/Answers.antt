use Rattle.std.proofs.Common.{◌≡◌, ◌∙◌, ap, List, ℕ, ◌++◌}
use Rattle.std.specs.Prelude.{codes}
use Rattle.std.proofs.lemmas.Result.{on_ok_weaker}
use Rattle.set_model.specs.State.{State, link_count}
use Rattle.terminal_text.specs.Counting.{counts_to}
use Rattle.terminal_text.specs.declared.counting.Counted.TheVariants.{Waiting, Unacked, Held, Unsent}
use Rattle.terminal_text.proofs.CountingLemmas.{put_before}
use Rattle.terminal_text.proofs.counting.push_link_counts.Goals as goal

pub returns : goal.returns
returns c =
    let s = c.args.set.now.state in
    let links = c.links-links.ensures.links in
    let many = link_count s in
    let end = c.push_counts-4.new.out.items in
    let first = c.extend_from_slice.new.self.items in
    let second = c.extend_from_slice-2.new.self.items in
    let third = c.extend_from_slice-3.new.self.items in
    let fourth = c.extend_from_slice-4.new.self.items in
    let waiting : c.push_counts.new.out.items ≡ first ++ counts_to Waiting s many =
    c.in_ok-push_counts.ensures ∙ ap (λ (n : ℕ). first ++ counts_to Waiting s n) links in
    let unacked : c.push_counts-2.new.out.items ≡ second ++ counts_to Unacked s many =
    c.in_ok-push_counts-2.ensures ∙ ap (λ (n : ℕ). second ++ counts_to Unacked s n) links in
    let holds : c.push_counts-3.new.out.items ≡ third ++ counts_to Held s many =
    c.in_ok-push_counts-3.ensures ∙ ap (λ (n : ℕ). third ++ counts_to Held s n) links in
    let last : List ℕ = counts_to Unsent s 16 in
    let from_unsent : List ℕ = codes " unsent=" ++ last in
    let from_held : List ℕ = counts_to Held s many ++ from_unsent in
    let from_holds : List ℕ = codes " held=" ++ from_held in
    let from_sent : List ℕ = counts_to Unacked s many ++ from_holds in
    let from_unacked : List ℕ = codes " unacked=" ++ from_sent in
    let from_waiting : List ℕ = counts_to Waiting s many ++ from_unacked in
    on_ok_weaker c.push_counts-4.result
    (λ is.
    let one = put_before end fourth c.push_counts-3.new.out.items (codes " unsent=") last is c.in_ok-extend_from_slice-4.ensures.items in
    let two = put_before end c.push_counts-3.new.out.items third (counts_to Held s many) from_unsent one holds in
    let three = put_before end third c.push_counts-2.new.out.items (codes " held=") from_held two c.in_ok-extend_from_slice-3.ensures.items in
    let four = put_before end c.push_counts-2.new.out.items second (counts_to Unacked s many) from_holds three unacked in
    let five = put_before end second c.push_counts.new.out.items (codes " unacked=") from_sent four c.in_ok-extend_from_slice-2.ensures.items in
    let six = put_before end c.push_counts.new.out.items first (counts_to Waiting s many) from_unacked five waiting in
    put_before end first c.args.out.now.items (codes "counts waiting=") from_waiting six c.in_ok-extend_from_slice.ensures.items)
    c.push_counts-4.ensures
