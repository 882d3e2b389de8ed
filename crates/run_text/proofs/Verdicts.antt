-- What came of a stream, message by message.
use Rattle.std.proofs.Common.{refl, arith, ◌≡◌, ◌≢◌, ◌∙◌, ap, sym, subst, ◌==◌, ◌+◌, ◌<◌, ◌≤◌, inl, inr, ℕ, zero, suc, Bool, true, false, List, [], ◌∷◌, ◌++◌, filter, map, length, take, drop, drop-cons, add-one, get_or, slice_get, Option, None, Some}
use Rattle.std.specs.Prelude.{if◌then◌else◌}
use Rattle.std.proofs.Math.Seq.{take-append_seam, take-suc}
use Rattle.std.proofs.lemmas.Bool.{cases_lt}
use Rattle.std.proofs.lemmas.List.{length-append, length-map, map-append, take-append-drop, take_all}
use Rattle.std.proofs.lemmas.List.Elements.{filter-append}
use Rattle.std.proofs.lemmas.Option.{slice_get_past}
use Rattle.set_model.specs.Rows.{stream_of}
use Rattle.bank_traffic.specs.Opening.{body_of, numbers_below}
use Rattle.bank_crew.specs.declared.end.SetEnd.{SetEnd}
use Rattle.run_text.specs.declared.verdict.Absence.{Absence}
use Rattle.run_text.specs.declared.verdict.Missing.{Missing}
use Rattle.run_text.specs.Verdict.{AllCame, AllOfSet, Follows, IsVerdict, Lacks, LacksFirst, TellsSet, messages_below, of_stream, taken_first}

so_many : (n : ℕ) → length (numbers_below n) ≡ n
so_many zero = refl
so_many (suc n) = omega (arith, length-append (numbers_below n) (n ∷ []), so_many n)

pub many_below : (stream n : ℕ) → length (messages_below stream n) ≡ n
many_below stream n = length-map (numbers_below n) (body_of stream) ∙ so_many n

-- one message more
pub one_below : (stream n : ℕ) → messages_below stream (suc n) ≡ messages_below stream n ++ body_of stream n ∷ []
one_below stream n = map-append (body_of stream) (numbers_below n) (n ∷ [])

-- WHAT WAS TAKEN, one more
module _ {B : Type 0} (of : B → List ℕ) (taken : List B) (i : ℕ) (body : B) (less : i < length taken) (is : body ≡ get_or taken i body) where
  pub one_taken : map of (take (i + 1) taken) ≡ map of (take i taken) ++ of body ∷ []
  one_taken =
      let step : take (i + 1) taken ≡ take i taken ++ body ∷ [] = rw add-one (take-suc taken i body less ∙ ap (λ b. take i taken ++ b ∷ []) (sym is)) in
      ap (map of) step ∙ map-append of (take i taken) (body ∷ [])

  pub all_taken : map of taken ≡ map of (take i taken) ++ of body ∷ map of (drop (i + 1) taken)
  all_taken =
      let step : drop i taken ≡ body ∷ drop (i + 1) taken = rw add-one (drop-cons taken i body less ∙ ap (λ b. b ∷ drop (suc i) taken) (sym is)) in
      ap (map of) (sym (take-append-drop i taken)) ∙ map-append of (take i taken) (drop i taken) ∙ ap (λ rest. map of (take i taken) ++ map of rest) step

of_more : (stream : ℕ) (before after : List (List ℕ)) → of_stream stream (before ++ after) ≡ of_stream stream before ++ of_stream stream after
of_more stream before after = filter-append (λ body. stream_of body == stream) before after

pub came_on : (messages stream came more : ℕ) (before : List (List ℕ)) (body : List ℕ) → of_stream stream before ≡ messages_below stream came → Follows messages stream came body more
    → of_stream stream (before ++ body ∷ []) ≡ messages_below stream more
came_on messages stream came more before body is follows =
    of_more stream before (body ∷ []) ∙ ap (λ front. front ++ of_stream stream (body ∷ [])) is ∙ sym follows.are

at_place : {X : Type 0} (front : List X) (x : X) (back : List X) (n : ℕ) → length front ≡ n → slice_get (front ++ x ∷ back) n ≡ Some x
at_place [] x back zero is = refl
at_place [] x back (suc n) is = absurd (omega (arith, is))
at_place (y ∷ front) x back zero is = absurd (omega (arith, is))
at_place (y ∷ front) x back (suc n) is = at_place front x back n (omega (arith, is))

first_here : (b : Bool) (x : List ℕ) (xs : List (List ℕ)) → b ≡ true → (if b then x ∷ xs else xs) ≡ x ∷ xs
first_here true x xs is = refl
first_here false x xs is = absurd (cc is)

-- another came in the place of the next
pub lacks_here : (messages stream came : ℕ) (before rest : List (List ℕ)) (body : List ℕ) → of_stream stream before ≡ messages_below stream came → came ≤ messages → (stream_of body == stream) ≡ true
    → (came < messages → body ≢ body_of stream came) → Lacks messages stream came (before ++ body ∷ rest)
lacks_here messages stream came before rest body is few here other =
    let front = messages_below stream came in
    let back = of_stream stream rest in
    let all : of_stream stream (before ++ body ∷ rest) ≡ front ++ body ∷ back =
    of_more stream before (body ∷ rest) ∙ ap (λ xs. xs ++ of_stream stream (body ∷ rest)) is ∙ ap (λ xs. front ++ xs) (first_here (stream_of body == stream) body back here) in
    let many = many_below stream came in
    record {
      few = few;
      before = ap (take came) all ∙ ap (λ n. take n (front ++ body ∷ back)) (sym many) ∙ take-append_seam front (body ∷ back);
      not_next = λ less found.
          let there : Some body ≡ Some (body_of stream came) = sym (at_place front body back came many) ∙ ap (λ xs. slice_get xs came) (sym all) ∙ found in
          let same : body ≡ body_of stream came = cc there in
          other less same;
      not_all = λ end same. let longer = ap length (sym all ∙ same) in absurd (omega (arith, longer, length-append front (body ∷ back)));
    }

-- none came behind them
pub lacks_end : (messages stream came : ℕ) (bodies : List (List ℕ)) → of_stream stream bodies ≡ messages_below stream came → came < messages → Lacks messages stream came bodies
lacks_end messages stream came bodies is less =
    let many = many_below stream came in
    record {
      few = omega (arith, less);
      before = ap (take came) is ∙ take_all came (messages_below stream came) (omega (arith, many));
      not_next = λ under found.
          let none : None ≡ Some (body_of stream came) = sym (slice_get_past (messages_below stream came) came (omega (arith, many))) ∙ ap (λ xs. slice_get xs came) (sym is) ∙ found in
          absurd (cc none);
      not_all = λ end same. absurd (omega (arith, end, less));
    }

-- a stream more
pub streams_on : (messages stream : ℕ) (bodies : List (List ℕ)) → AllOfSet stream messages bodies → AllCame messages stream bodies → AllOfSet (stream + 1) messages bodies
streams_on messages stream bodies all one s less = elim (cases_lt s stream) [
  | inl before ↦ all s before
  | inr past ↦ let same : stream ≡ s = omega (arith, past, less) in subst (λ n. AllCame messages n bodies) same one
]

-- the first message that is missing is so whatever is told of why
pub why_is_no_matter : (users messages set : ℕ) (ends : List SetEnd) (missing : Missing) (why : Absence) → IsVerdict users messages set ends (Some missing)
    → IsVerdict users messages set ends (Some (record missing { why = why }))
why_is_no_matter users messages set [] missing why is = absurd (cc is)
why_is_no_matter users messages set (end ∷ ends) missing why (inl is) = inl (is.0, why_is_no_matter users messages (suc set) ends missing why is.1)
why_is_no_matter users messages set (end ∷ ends) missing why (inr is) =
    let same : is.0 ≡ missing = cc is.1 in
    let told = subst (λ (m : Missing). TellsSet users messages set (taken_first end.users.items) (Some m)) same is.2 in
    inr (record missing { why = why }, refl, (told.0, record { stream_of_set = told.1.stream_of_set; before = told.1.before; lacks = told.1.lacks }))
