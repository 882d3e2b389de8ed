use Rattle.std.proofs.Common.{refl, ap, subst, sym, ◌∙◌, ◌≡◌, ◌≤◌, ◌<◌, List, ℕ, length, slice_get, slice_set, Some, true}
use Rattle.std.proofs.lemmas.List.{length-set}
use Rattle.set_model.specs.History.{LinkSet}
use Rattle.term_bench.specs.Ends.{AreNumbered, AtLink, BenchState}
use Rattle.term_bench.specs.Late.{AreLate, ended_from}
use Rattle.term_bench.specs.Turns.{most_turns}
use Rattle.term_bench.specs.declared.door.SetDoor.{SetDoor}
use Rattle.term_bench.proofs.BenchLemmas.{bench_breaks, bench_same, bench_turns, ended_size, link_at, numbered_ended, one_link, put_back, turns_end}
use Rattle.term_bench.proofs.LinkLemmas.{numbered_set}
use Rattle.term_bench.proofs.bench.Bench.turn_tapped.Goals as goal

pub invariant_of-self : goal.invariant_of-self
invariant_of-self g c =
    let view = c.self.view_is in
    let items = c.self.inside.links.items in
    let below = subst (λ (b : BenchState). c.args.link < length b.links) (sym view) c.requires in
    let is_at = link_at items c.from.result c.args.link c.index_mut-at.result.now c.from.ensures below c.index_mut-at.ensures.value in
    let s = c.turn_to.new.self.set.state in
    let t = c.turn.new.door.set.state in
    let late = subst (λ (ns : List ℕ). AreLate s ns) (sym c.turn.ensures.same.late_is) c.turn_to.ensures.late in
    let mid = slice_set items c.from.result c.turn.new.self in
    let is = put_back s t c.end_late.new.links c.deref_mut.result.now mid _ (c.end_late.ensures s late) c.deref_mut.ensures.value c.deref_mut.ensures.len in (
      subst (λ (links : List AtLink). AreNumbered links) (sym is)
          (numbered_ended s t mid (numbered_set items c.from.result c.index_mut-at.result.now c.turn.new.self c.self.invariant.0 is_at c.turn.ensures.link)),
      subst (λ (links : List AtLink). length links ≤ 16) (sym is)
          (subst (λ n. n ≤ 16) (sym (ended_size s t mid ∙ length-set items c.from.result c.turn.new.self)) c.self.invariant.1),
    )

pub invariant_of-self-in-Err : goal.invariant_of-self-in-Err
invariant_of-self-in-Err g c =
    let view = c.self.view_is in
    let items = c.self.inside.links.items in
    let below = subst (λ (b : BenchState). c.args.link < length b.links) (sym view) c.requires in
    let is_at = link_at items c.from.result c.args.link c.index_mut-at.result.now c.from.ensures below c.index_mut-at.ensures.value in (
      numbered_set items c.from.result c.index_mut-at.result.now c.turn.new.self c.self.invariant.0 is_at c.turn.ensures.link,
      subst (λ n. n ≤ 16) (sym (length-set items c.from.result c.turn.new.self)) c.self.invariant.1,
    )

pub returns-in-Ok-clause-turns : goal.returns-in-Ok-clause-turns
returns-in-Ok-clause-turns g c =
    let view = c.self.view_is in
    let items = c.self.inside.links.items in
    let below = subst (λ (b : BenchState). c.args.link < length b.links) (sym view) c.requires in
    let is_at = link_at items c.from.result c.args.link c.index_mut-at.result.now c.from.ensures below c.index_mut-at.ensures.value in
    let is_there = subst (λ (b : BenchState). slice_get b.links c.from.result ≡ Some c.index_mut-at.result.now) view is_at in
    let s = c.turn_to.new.self.set.state in
    let t = c.turn.new.door.set.state in
    let late = subst (λ (ns : List ℕ). AreLate s ns) (sym c.turn.ensures.same.late_is) c.turn_to.ensures.late in
    let held = c.turn_to.ensures.set ∙ ap (λ (b : BenchState). b.set) view in
    let mid : BenchState = record { set = c.turn.new.door.set; links = slice_set items c.from.result c.turn.new.self } in
    let went = c.in-Ok.ensures.turns in
    let is = put_back s t c.end_late.new.links c.deref_mut.result.now mid.links _ (c.end_late.ensures s late)
    c.deref_mut.ensures.value c.deref_mut.ensures.len in (
      went.0,
      turns_end c.args.link c.args.octet c.args.self.now mid _ c.in-Ok.turn went.0
          (bench_turns c.args.link c.turn_to.new.self.link c.from.result c.args.octet c.args.self.now mid _ c.index_mut-at.result.now c.turn.new.self
          c.in-Ok.turn went.0 c.turn_to.ensures.link c.from.ensures held is_there went.1
          (ap (λ (b : BenchState). slice_set b.links c.from.result c.turn.new.self) view))
          refl (is ∙ ap (λ (set : LinkSet). ended_from 0 set.state t mid.links) held),
      went.2,
    )

pub returns-in-Ok-clause-exhausted : goal.returns-in-Ok-clause-exhausted
returns-in-Ok-clause-exhausted g c = λ at is_here reached.
    let view = c.self.view_is in
    let items = c.self.inside.links.items in
    let below = subst (λ (b : BenchState). c.args.link < length b.links) (sym view) c.requires in
    let is_at = link_at items c.from.result c.args.link c.index_mut-at.result.now c.from.ensures below c.index_mut-at.ensures.value in
    let is_there = subst (λ (b : BenchState). slice_get b.links c.from.result ≡ Some c.index_mut-at.result.now) view is_at in
    let one = one_link c.args.self.now.links c.from.result c.args.link c.index_mut-at.result.now at c.from.ensures is_there is_here in
    let nothing = c.in-Ok.ensures.exhausted (subst (λ (at : AtLink). at.counts.turns ≡ most_turns) one reached) in
    let wrong = nothing.0 in let no : ⊥ = cc in absurd no

pub returns-in-Ok-clause-failed : goal.returns-in-Ok-clause-failed
returns-in-Ok-clause-failed g c = λ at is_here failed fewer.
    let view = c.self.view_is in
    let items = c.self.inside.links.items in
    let below = subst (λ (b : BenchState). c.args.link < length b.links) (sym view) c.requires in
    let is_at = link_at items c.from.result c.args.link c.index_mut-at.result.now c.from.ensures below c.index_mut-at.ensures.value in
    let is_there = subst (λ (b : BenchState). slice_get b.links c.from.result ≡ Some c.index_mut-at.result.now) view is_at in
    let one = one_link c.args.self.now.links c.from.result c.args.link c.index_mut-at.result.now at c.from.ensures is_there is_here in
    let nothing = c.in-Ok.ensures.failed (subst (λ (at : AtLink). at.failed ≡ true) one failed)
    (subst (λ (at : AtLink). at.counts.turns < most_turns) one fewer) in
    let wrong = nothing.0 in let no : ⊥ = cc in absurd no

pub returns-in-Err-clause-breaks : goal.returns-in-Err-clause-breaks
returns-in-Err-clause-breaks g c =
    let view = c.self.view_is in
    let items = c.self.inside.links.items in
    let below = subst (λ (b : BenchState). c.args.link < length b.links) (sym view) c.requires in
    let is_at = link_at items c.from.result c.args.link c.index_mut-at.result.now c.from.ensures below c.index_mut-at.ensures.value in
    let is_there = subst (λ (b : BenchState). slice_get b.links c.from.result ≡ Some c.index_mut-at.result.now) view is_at in
    let held = c.turn_to.ensures.set ∙ ap (λ (b : BenchState). b.set) view in
    let links = ap (λ (b : BenchState). slice_set b.links c.from.result c.turn.new.self) view in
    let broke = c.in-Err.ensures.breaks in
    bench_breaks c.args.link c.turn_to.new.self.link _ c.from.result c.args.self.now _ _ _ _ c.index_mut-at.result.now
    c.turn.new.self c.turn_to.ensures.link c.from.ensures held is_there c.turn.ensures.same links c.args.octet c.in-Err.fault broke.0 broke.1 broke.2

pub returns-in-Err-clause-exhausted : goal.returns-in-Err-clause-exhausted
returns-in-Err-clause-exhausted g c = λ at is_here reached.
    let view = c.self.view_is in
    let items = c.self.inside.links.items in
    let below = subst (λ (b : BenchState). c.args.link < length b.links) (sym view) c.requires in
    let is_at = link_at items c.from.result c.args.link c.index_mut-at.result.now c.from.ensures below c.index_mut-at.ensures.value in
    let is_there = subst (λ (b : BenchState). slice_get b.links c.from.result ≡ Some c.index_mut-at.result.now) view is_at in
    let one = one_link c.args.self.now.links c.from.result c.args.link c.index_mut-at.result.now at c.from.ensures is_there is_here in
    let nothing = c.in-Err.ensures.exhausted (subst (λ (at : AtLink). at.counts.turns ≡ most_turns) one reached) in (
      nothing.0,
      bench_same c.from.result c.args.self.now _ c.turn_to.new.self.set c.index_mut-at.result.now c.turn.new.self
          (ap (λ (door : SetDoor). door.set) nothing.2) (c.turn_to.ensures.set ∙ ap (λ (b : BenchState). b.set) view) is_there
          (ap (λ (b : BenchState). slice_set b.links c.from.result c.turn.new.self) view) nothing.1,
    )

pub returns-in-Err-clause-failed : goal.returns-in-Err-clause-failed
returns-in-Err-clause-failed g c = λ at is_here failed fewer.
    let view = c.self.view_is in
    let items = c.self.inside.links.items in
    let below = subst (λ (b : BenchState). c.args.link < length b.links) (sym view) c.requires in
    let is_at = link_at items c.from.result c.args.link c.index_mut-at.result.now c.from.ensures below c.index_mut-at.ensures.value in
    let is_there = subst (λ (b : BenchState). slice_get b.links c.from.result ≡ Some c.index_mut-at.result.now) view is_at in
    let one = one_link c.args.self.now.links c.from.result c.args.link c.index_mut-at.result.now at c.from.ensures is_there is_here in
    let nothing = c.in-Err.ensures.failed (subst (λ (at : AtLink). at.failed ≡ true) one failed)
    (subst (λ (at : AtLink). at.counts.turns < most_turns) one fewer) in (
      nothing.0,
      bench_same c.from.result c.args.self.now _ c.turn_to.new.self.set c.index_mut-at.result.now c.turn.new.self
          (ap (λ (door : SetDoor). door.set) nothing.2) (c.turn_to.ensures.set ∙ ap (λ (b : BenchState). b.set) view) is_there
          (ap (λ (b : BenchState). slice_set b.links c.from.result c.turn.new.self) view) nothing.1,
    )
