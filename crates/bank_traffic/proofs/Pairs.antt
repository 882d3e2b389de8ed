-- The lines of two banks, whose sets' terminals took their turns over them.
use Rattle.std.proofs.Common.{refl, ◌≡◌, ◌∙◌, ap, sym, subst, List, [], ◌∷◌, map, Result, Ok, Err, IfOk}
use Rattle.std.specs.List.{AllZip}
use Rattle.line_ring.specs.Rings.{AreJoined}
use Rattle.line_ring.specs.declared.line.Line as line_end
use Rattle.line_ring.specs.declared.ring.RingLine.{RingLine}
use Rattle.bank_crew.specs.declared.end.SetEnd.{SetEnd}
use Rattle.bank_crew.specs.Ends.{LinedTask, counted}
use Rattle.bank_core.specs.Ends.{AreEnds, AreEndsOver}
use Rattle.bank_core.specs.declared.fault.BankFault.{BankFault}
use Rattle.bank_traffic.specs.declared.asked.Traffic.{Traffic}
use Rattle.bank_traffic.specs.declared.noise.Noise.{Noise}
use Rattle.bank_traffic.specs.declared.traffic.TrafficEnds.{TrafficEnds}
use Rattle.bank_traffic.specs.Noise.{all_noises}
use Rattle.bank_traffic.specs.Opening.{AreTasks, far_end, near_end}
use Rattle.bank_traffic.specs.Sides.{RunOverPairs}

-- what was done over lines was done
pub done_over : {L : Type 0} (l : line_end.Ghosts L) (tasks : List (LinedTask L)) (ends : List SetEnd) → AreEndsOver l tasks ends → AreEnds (map counted tasks) ends
done_over l [] [] did = tt
done_over l [] (end ∷ ends) did = absurd did
done_over l (task ∷ tasks) [] did = absurd did
done_over l (task ∷ tasks) (end ∷ ends) did = (did.0.done, done_over l tasks ends did.1)

-- what is read off the lines
pub read_off : {L N V : Type 0} (items : V → List L) (first : L → N) (vs : List V) (tasks : List (LinedTask L)) → map (λ task. task.lines) tasks ≡ map items vs
    → map (λ task. map first task.lines) tasks ≡ map (λ v. map first (items v)) vs
read_off items first [] [] same = refl
read_off items first [] (task ∷ tasks) same = absurd cc
read_off items first (v ∷ vs) [] same = absurd cc
read_off {L} {N} items first (v ∷ vs) (task ∷ tasks) same =
    let head : task.lines ≡ items v = cc same in
    let tail : map (λ task. task.lines) tasks ≡ map items vs = cc same in
    ap (λ (lines : List L). map first lines ∷ map (λ task. map first task.lines) tasks) head ∙ ap (λ (more : List (List N)). map first (items v) ∷ more) (read_off items first vs tasks tail)

-- and of two banks' lines
pub joined_off : {L V : Type 0} (R : List L → List L → Type 0) (items : V → List L) (vs ws : List V) (tasks others : List (LinedTask L)) → map (λ task. task.lines) tasks ≡ map items vs → map (λ task. task.lines) others ≡ map items ws
    → AllZip (λ a b. R (items a) (items b)) vs ws → AllZip (λ a b. R a.lines b.lines) tasks others
joined_off R items [] [] [] [] same same' all = tt
joined_off R items [] ws (task ∷ tasks) others same same' all = absurd cc
joined_off R items (v ∷ vs) ws [] others same same' all = absurd cc
joined_off R items vs [] tasks (other ∷ others) same same' all = absurd cc
joined_off R items vs (w ∷ ws) tasks [] same same' all = absurd cc
joined_off R items [] (w ∷ ws) [] (other ∷ others) same same' all = absurd all
joined_off R items (v ∷ vs) [] (task ∷ tasks) [] same same' all = absurd all
joined_off {L} R items (v ∷ vs) (w ∷ ws) (task ∷ tasks) (other ∷ others) same same' all =
    let head : task.lines ≡ items v = cc same in
    let tail : map (λ task. task.lines) tasks ≡ map items vs = cc same in
    let head' : other.lines ≡ items w = cc same' in
    let tail' : map (λ task. task.lines) others ≡ map items ws = cc same' in (
      subst (λ (xs : List L). R xs other.lines) (sym head) (subst (λ (ys : List L). R (items v) ys) (sym head') all.0),
      joined_off R items vs ws tasks others tail tail' all.1,
    )

-- WHAT TWO BANKS CAME TO, over pairs
pub runs_over_pairs : {A X V : Type 0} (l : line_end.Ghosts X) (ring : X → RingLine A) (noise : X → Noise) (items : V → List X) (traffic : Traffic) (near far : List (LinedTask X)) (vs ws : List V) (result : Result TrafficEnds BankFault)
    → AreTasks traffic (near_end traffic) (map counted near) → AreTasks traffic (far_end traffic) (map counted far)
    → map (λ task. task.lines) near ≡ map items vs → map (λ task. task.lines) far ≡ map items ws
    → map (λ v. map noise (items v)) vs ≡ all_noises traffic 0 → map (λ v. map noise (items v)) ws ≡ all_noises traffic 1
    → AllZip (λ a b. AllZip (λ x y. AreJoined (ring x) (ring y)) (items a) (items b)) vs ws
    → IfOk result (λ ends. AreEndsOver l near ends.near.items) → IfOk result (λ ends. AreEndsOver l far ends.far.items)
    → IfOk result (λ ends. RunOverPairs l ring noise traffic ends.near.items ends.far.items)
runs_over_pairs l ring noise items traffic near far vs ws (Err fault) a b lines lines' noisy noisy' joined did did' = tt
runs_over_pairs l ring noise items traffic near far vs ws (Ok ends) a b lines lines' noisy noisy' joined did did' = record {
  near_tasks = near;
  far_tasks = far;
  near_are = a;
  far_are = b;
  near_noise = read_off items noise vs near lines ∙ noisy;
  far_noise = read_off items noise ws far lines' ∙ noisy';
  joined = joined_off (AllZip (λ x y. AreJoined (ring x) (ring y))) items vs ws near far lines lines' joined;
  near_did = did;
  far_did = did';
}
