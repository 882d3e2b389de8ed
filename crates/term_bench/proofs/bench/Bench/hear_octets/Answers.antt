use Rattle.std.proofs.Common.{arith, sym, ap, subst, ◌∙◌, ℕ, List, [], ◌∷◌, ◌++◌, take, append_assoc}
use Rattle.std.proofs.lemmas.List.{take_more}
use Rattle.std.proofs.lemmas.Option.{slice_get-get_or}
use Rattle.term_bench.specs.Waiting.{HearsAll, broken}
use Rattle.term_bench.specs.declared.turn.Turn.{Turn}
use Rattle.term_bench.proofs.HearingLemmas.{hears_more, told_on}
use Rattle.term_bench.proofs.bench.Bench.hear_octets.Goals as goal

pub loop-octet-preserved : goal.loop-octet-preserved
loop-octet-preserved c =
    let so = c.loop-octet.invariant.hears in
    let heard = c.in_ok-turn.ensures.turns in
    let octets = c.args.octets.now in
    let made = so.0 ++ c.in_ok-turn.turn ∷ [] in record {
      links = c.hear_octet.ensures.links ∙ c.loop-octet.invariant.links;
      room = omega (arith, c.loop-octet.invariant.room, c.push_reserved.ensures.len, c.push_reserved.ensures.capacity);
      hears = (
        made,
        c.push_reserved.ensures.items ∙ ap (λ (ts : List Turn). ts ++ c.in_ok-turn.turn ∷ []) so.1
            ∙ append_assoc c.reserve.new.self.items so.0 (c.in_ok-turn.turn ∷ []),
        subst (λ (os : List ℕ). HearsAll c.args.link os c.args.self.now made c.hear_octet.new.self)
            (sym (take_more octets c.loop-octet.octet-index 0 c.loop-octet-test.true))
            (hears_more c.args.link (take c.loop-octet.octet-index octets) _ c.args.self.now c.loop-octet.self c.hear_octet.new.self so.0
            c.in_ok-turn.turn heard.0 so.2 heard.1),
      );
    }

pub returns-in_err-turn-clause-breaks : goal.returns-in_err-turn-clause-breaks
returns-in_err-turn-clause-breaks c =
    let so = c.loop-octet.invariant.hears in
    let octets = c.args.octets.now in
    told_on c.from_residual.result c.in_err-turn.field-0.0 _ c.from_residual.ensures.1 (
      so.0,
      so.1 ∙ ap (λ (ts : List Turn). ts ++ so.0) c.reserve.ensures.items,
      broken c.loop-octet.octet-index _ c.loop-octet.self
          (slice_get-get_or octets c.loop-octet.octet-index 0 c.loop-octet-test.true) so.2 c.in_err-turn.ensures.breaks,
    )
