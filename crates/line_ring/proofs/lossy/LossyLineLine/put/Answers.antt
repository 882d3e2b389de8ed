use Rattle.std.proofs.Common.{◌≡◌, ◌+◌, ◌<◌, ◌%◌, [], ◌∷◌, ◌++◌, length, if◌then◌else◌, ℕ, List, sym, ap, subst, ◌∙◌, append_assoc, length-append, arith}
use Rattle.std.proofs.Math.Nat.{mod-lt, mod-add-mod}
use Rattle.std.proofs.lemmas.Bool.Decides.{nat_tests}
use Rattle.std.proofs.lemmas.List.{length_push}
use Rattle.line_ring.specs.Lossy.{passing, is_lost}
use Rattle.line_ring.proofs.Losing.{passing-push, length-tail}
use Rattle.line_ring.proofs.lossy.LossyLineLine.put.Goals as goal

pub invariant_of-self : goal.invariant_of-self
invariant_of-self c =
    let l = c.self.inside in
    let octet : ℕ = c.args.octet in
    let tail : List ℕ = if c.loses-lost.result then [] else octet ∷ [] in
    let count : length c.note.new.self ≡ length l.put + 1 = ap length c.note.ensures ∙ length_push l.put octet in
    let within : 0 < l.every → l.place < l.every = λ some. subst (λ p. p < l.every) (sym (c.self.invariant.2 some)) (mod-lt (length l.put) some) in
    let place : 0 < l.every → c.next_place-self-inside.result ≡ (length l.put + 1) % l.every =
    λ some. c.next_place-self-inside.ensures some (within some) ∙ ap (λ p. (p + 1) % l.every) (c.self.invariant.2 some)
    ∙ mod-add-mod (length l.put) l.every 1 in
    let lost : c.loses-lost.result ≡ is_lost l.every (length l.put + 1) = c.loses-lost.ensures (length l.put + 1) place in
    let room : length l.octets < 4096 = grind (arith, nat_tests, c.is_full.ensures.full, c.if-is_full.false, c.is_full.ensures.within) in (
      ap (λ xs. l.taken ++ xs) c.store.ensures ∙ sym (append_assoc l.taken l.octets tail)
          ∙ ap (λ xs. xs ++ tail) c.self.invariant.0
          ∙ ap (λ b. passing l.every l.put ++ (if b then [] else octet ∷ [])) lost
          ∙ sym (ap (λ xs. passing l.every xs) c.note.ensures ∙ passing-push l.every l.put octet),
      omega (arith, room, ap length c.store.ensures ∙ length-append l.octets tail, length-tail c.loses-lost.result octet),
      λ some. place some ∙ ap (λ n. n % l.every) (sym count),
    )

pub returns-clause-waiting : goal.returns-clause-waiting
returns-clause-waiting c =
    let tail : List ℕ = if c.loses-lost.result then [] else c.args.octet ∷ [] in
    (tail, ap (λ v. v.waiting ++ tail) (sym c.self.view_is) ∙ sym c.store.ensures)
