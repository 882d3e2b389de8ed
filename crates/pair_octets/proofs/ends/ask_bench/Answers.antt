use Rattle.std.proofs.Common.{refl}
use Rattle.pair_octets.proofs.ends.ask_bench.Goals as goal

pub returns-in-Ok-clause-answers : goal.returns-in-Ok-clause-answers
returns-in-Ok-clause-answers c far coming going = (
  record {
    answer = c.in-Ok.answer;
    is_step = c.in-Ok.ensures.ok;
    links_are = c.in-Ok.ensures.links;
    only = record { far_is = refl; to_near_is = refl; to_far_is = refl };
  },
  refl,
)
