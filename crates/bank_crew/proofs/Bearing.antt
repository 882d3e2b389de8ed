-- One answer more is carried.
use Rattle.std.proofs.Common.{refl, arith, ◌≡◌, ◌∙◌, ap, sym, ◌+◌, ℕ, List, [], ◌∷◌, ◌++◌, Option}
use Rattle.set_events.specs.declared.answer.Answer.{Answer}
use Rattle.set_events.specs.declared.event.Actor.{Actor}
use Rattle.set_events.specs.declared.event.Event.{Event}
use Rattle.set_events.specs.declared.history.Entry.{Entry}
use Rattle.bank_crew.specs.declared.carried.Carried.{Carried as LinkCarried}
use Rattle.bank_crew.specs.declared.plan.Managed.{Managed}
use Rattle.bank_crew.specs.Carrying.{Brings, again, capped, carried_in, carried_more, diverted, due_after, due_in, octets_heard, octets_sent, sent, sum_in, ups}

cap_more : (s s' x : ℕ) → s' ≡ s + x → capped (capped s + x) ≡ capped s'
cap_more s s' x is = omega (arith, is)

module _ (link : ℕ) (who : Actor) (event : Event) (answer : Answer) where
  abbrev pub last : Entry
  last = record { who = who; event = event; answer = answer }

  due_more : (due : ℕ) (entries : List Entry) → due_in link due (entries ++ last ∷ []) ≡ due_after link (due_in link due entries) event answer
  due_more due [] = refl
  due_more due (e ∷ entries) = due_more (due_after link due e.event e.answer) entries

  sum_more : (brings : Brings) (due : ℕ) (entries : List Entry) → sum_in link brings due (entries ++ last ∷ []) ≡ sum_in link brings due entries + brings (due_in link due entries) event answer
  sum_more brings due [] = omega arith
  sum_more brings due (e ∷ entries) =
      let rest = sum_more brings (due_after link due e.event e.answer) entries in
      omega (arith, rest)

  capped_more : (brings : Brings) (entries : List Entry) → capped (capped (sum_in link brings 0 entries) + brings (due_in link 0 entries) event answer) ≡ capped (sum_in link brings 0 (entries ++ last ∷ []))
  capped_more brings entries =
      cap_more (sum_in link brings 0 entries) (sum_in link brings 0 (entries ++ last ∷ [])) (brings (due_in link 0 entries) event answer) (sum_more brings 0 entries)

  abbrev carried_of : ℕ → ℕ → ℕ → ℕ → ℕ → ℕ → ℕ → LinkCarried
  carried_of u s o a d h n = record { ups = u; sent = s; sent_octets = o; again = a; diverted = d; heard_octets = h; next = n }

  pub carried_on : (managed : Option Managed) (entries : List Entry) → carried_more managed link event answer (carried_in managed link entries) ≡ carried_in managed link (entries ++ last ∷ [])
  carried_on managed entries =
      let more = entries ++ last ∷ [] in
      let next = due_after link (due_in link 0 entries) event answer in
      let old : Brings → ℕ = λ brings. capped (capped (sum_in link brings 0 entries) + brings (due_in link 0 entries) event answer) in
      let new : Brings → ℕ = λ brings. capped (sum_in link brings 0 more) in
      ap (λ n. carried_of n (old sent) (old octets_sent) (old again) (old (diverted managed link)) (old (octets_heard link)) next) (capped_more (ups link) entries)
      ∙ ap (λ n. carried_of (new (ups link)) n (old octets_sent) (old again) (old (diverted managed link)) (old (octets_heard link)) next) (capped_more sent entries)
      ∙ ap (λ n. carried_of (new (ups link)) (new sent) n (old again) (old (diverted managed link)) (old (octets_heard link)) next) (capped_more octets_sent entries)
      ∙ ap (λ n. carried_of (new (ups link)) (new sent) (new octets_sent) n (old (diverted managed link)) (old (octets_heard link)) next) (capped_more again entries)
      ∙ ap (λ n. carried_of (new (ups link)) (new sent) (new octets_sent) (new again) n (old (octets_heard link)) next) (capped_more (diverted managed link) entries)
      ∙ ap (λ n. carried_of (new (ups link)) (new sent) (new octets_sent) (new again) (new (diverted managed link)) n next) (capped_more (octets_heard link) entries)
      ∙ ap (λ n. carried_of (new (ups link)) (new sent) (new octets_sent) (new again) (new (diverted managed link)) (new (octets_heard link)) n) (sym (due_more 0 entries))
