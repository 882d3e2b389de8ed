-- What the items of a history come to, one after another.
use Rattle.std.proofs.Common.{refl, arith, sym, subst, ◌≡◌, ◌∙◌, ap, ◌<◌, ◌≤◌, ◌+◌, [], ◌∷◌, ◌++◌, length, ℕ, zero, suc, Bool, true, false, nat_le, List, Option, None, Some, Result, Ok, Err, IfOk, get_or, append_assoc, codes}
use Rattle.std.proofs.lemmas.Bool.Decides.{nat_tests}
use Rattle.std.proofs.lemmas.List.{length-append}
use Rattle.text_base.specs.Printing.{Printed}
use Rattle.text_base.specs.declared.fault.Stop.{Stop}
use Rattle.history_audit.specs.Auditing.{IsAuditOf, IsAudited, books_text, fails, full, legal, legal_text, told_of, wrong, wrong_text}
use Rattle.history_audit.specs.Reading.{IsCourse, IsNoted, IsRead, IsSaidOf, IsTold, IsWrongAt, StandsAt, is_legal, opened_by, passed_over}
use Rattle.history_audit.specs.declared.course.Course.{Course}
use Rattle.history_audit.specs.declared.course.Stand.{Stand}
use Rattle.history_audit.specs.declared.course.Stand.TheVariants.{Legal, Wrong, Full}
use Rattle.history_audit.specs.declared.fault.AuditFault.{AuditFault}
use Rattle.history_audit.specs.declared.verdict.Verdict.{Verdict}
use Rattle.history_audit.specs.declared.fault.AuditFault.TheVariants.{Text, Illegal, Exhausted}
use Rattle.set_core.specs.FirstWrong.{IsFirstWrong, answer_at}
use Rattle.set_core.specs.Hearing.{HasHeard, Hearing, IsEntry, IsFound, IsWrongNext, unasked}
use Rattle.set_core.specs.declared.auditor.Finding.{Finding}
use Rattle.set_core.specs.declared.auditor.Finding.TheVariants.{WrongAnswer, NoSuchActor}
use Rattle.set_core.specs.declared.item.Item.{Item}
use Rattle.set_core.specs.declared.item.Item.TheVariants.{Entered, Checkpoint}
use Rattle.set_core.specs.Items.{books_over, entries_among}
use Rattle.set_core.proofs.Running.{entries_both}
use Rattle.text_entries.specs.Telling.{Told, nothing_told, told_in_all, told_next, with_item, with_line}
use Rattle.text_entries.specs.FirstLine.{settings_in}
use Rattle.text_entries.specs.Pieces.{item_of}
use Rattle.l2_units.specs.declared.profile.Profile.{Profile}
use Rattle.set_events.specs.declared.answer.Answer.{Answer}
use Rattle.set_events.specs.declared.books.Books.{Books}
use Rattle.set_events.specs.declared.history.Entry.{Entry}
use Rattle.set_core.proofs.Heard.{entries_heard}
use Rattle.set_model.specs.History.{Base, longest_history}
use Rattle.set_model.specs.State.{State, Settings, opened_with}
use Rattle.text_lines.specs.declared.flaw.LineFlaw.TheVariants.{Words}
use Rattle.text_lines.specs.Lines.{is_remark}

-- Places in lists.

get_front : (lines more : List ℕ) (k : ℕ) → k < length lines → get_or (lines ++ more) k 0 ≡ get_or lines k 0
get_front [] more k h = absurd (omega (arith, h))
get_front (x ∷ xs) more zero h = refl
get_front (x ∷ xs) more (suc k) h = get_front xs more k (omega (arith, h))

get_last : (lines : List ℕ) (n : ℕ) → get_or (lines ++ n ∷ []) (length lines) 0 ≡ n
get_last [] n = refl
get_last (x ∷ xs) n = get_last xs n

-- how many entries there are with an item more
with_entry : (items : List Item) (entry : Entry) → length (entries_among (items ++ Entered entry ∷ [])) ≡ length (entries_among items) + 1
with_entry items entry = ap length (entries_both items (Entered entry ∷ [])) ∙ length-append (entries_among items) (entry ∷ [])

with_checkpoint : (items : List Item) → length (entries_among (items ++ Checkpoint ∷ [])) ≡ length (entries_among items)
with_checkpoint items = ap length (entries_both items (Checkpoint ∷ [])) ∙ length-append (entries_among items) [] ∙ omega arith

one_entry : (items : List Item) (item : Item) → IsEntry item → length (entries_among (items ++ item ∷ [])) ≡ length (entries_among items) + 1
one_entry items (Entered entry) e = with_entry items entry
one_entry items Checkpoint e = absurd e

no_fewer : (items : List Item) (item : Item) → length (entries_among items) ≤ length (entries_among (items ++ item ∷ []))
no_fewer items (Entered entry) = omega (arith, with_entry items entry)
no_fewer items Checkpoint = omega (arith, with_checkpoint items)

-- A COURSE, with an item more.
module _ (told : Told) (n : ℕ) (item : Item) where
  next : Told
  next = with_item n told item

  numbered_next : length told.lines ≡ length told.items → length (with_item n told item).lines ≡ length (with_item n told item).items
  numbered_next e = omega (arith, e, length-append told.lines (n ∷ []), length-append told.items (item ∷ []))

  -- legal so far
  was_legal : (opening : State) (h : Hearing) (stand : Stand) → is_legal stand ≡ true → StandsAt opening told h stand → HasHeard (unasked opening) told.items h
  was_legal opening h Legal e s = s
  was_legal opening h Full e s = let no : false ≡ true = e in cc no
  was_legal opening h (Wrong line answer entries) e s = let no : false ≡ true = e in cc no

  still_legal : (opening : State) (h : Hearing) (stand : Stand) → is_legal stand ≡ true → HasHeard (unasked opening) (told.items ++ item ∷ []) h → StandsAt opening (with_item n told item) h stand
  still_legal opening h Legal e s = s
  still_legal opening h Full e s = let no : false ≡ true = e in cc no
  still_legal opening h (Wrong line answer entries) e s = let no : false ≡ true = e in cc no

  module _ (course : Course) (c : IsCourse told course) where
    turned : (auditor : Hearing) (stand : Stand) → StandsAt (opened_with c.settings) (with_item n told item) auditor stand → IsCourse (with_item n told item) (record { profile = course.profile; auditor = auditor; stand = stand })
    turned auditor stand s = record { settings = c.settings; told_is = c.told_is; profile_is = c.profile_is; numbered = numbered_next c.numbered; stands = s }

    module _ (e : is_legal course.stand ≡ true) where
      heard : HasHeard (unasked (opened_with c.settings)) told.items course.auditor
      heard = was_legal (opened_with c.settings) course.auditor course.stand e c.stands

      pub is_right : (auditor : Hearing) → ((base : Base) (items : List Item) → HasHeard base items course.auditor → HasHeard base (items ++ item ∷ []) auditor)
          → IsCourse (with_item n told item) (record { profile = course.profile; auditor = auditor; stand = course.stand })
      is_right auditor f = turned auditor course.stand (still_legal (opened_with c.settings) auditor course.stand e (f (unasked (opened_with c.settings)) told.items heard))

      pub is_wrong : (auditor : Hearing) (answer : Option Answer) (entries : ℕ) → ((opening : State) (items : List Item) → HasHeard (unasked opening) items course.auditor → IsWrongNext opening items item answer)
          → ((opening : State) (items : List Item) → HasHeard (unasked opening) items course.auditor → entries ≡ length (entries_among items)) → (IsEntry item → course.auditor.tally.entries < longest_history)
          → IsCourse (with_item n told item) (record { profile = course.profile; auditor = auditor; stand = Wrong n answer (entries + 1) })
      is_wrong auditor answer entries f g room =
          let opening = opened_with c.settings in
          let wrong_here = f opening told.items heard in
          let many = g opening told.items heard in
          let all = entries_heard opening told.items course.auditor heard in
          let fits = room wrong_here.is_entry in
          let same = c.numbered in
          turned auditor (Wrong n answer (entries + 1)) (record {
            front = told.items;
            item = item;
            rest = [];
            items_are = refl;
            next = wrong_here;
            within = omega (arith, same, length-append told.lines (n ∷ []));
            line_is = sym (ap (λ (k : ℕ). get_or (told.lines ++ n ∷ []) k 0) (sym same) ∙ get_last told.lines n);
            entries_are = omega (arith, many, one_entry told.items item wrong_here.is_entry);
            few = omega (arith, many, all, fits);
          })

      pub is_full : (auditor : Hearing) → IsEntry item × (longest_history ≤ course.auditor.tally.entries) → IsCourse (with_item n told item) (record { profile = course.profile; auditor = auditor; stand = Full })
      is_full auditor many = let all = entries_heard (opened_with c.settings) told.items course.auditor heard in let more = many.1 in turned auditor Full (omega (arith, all, more, one_entry told.items item many.0))

  -- behind a wrong entry
  wrong_before : (opening : State) (line : ℕ) (answer : Option Answer) (entries entries' : ℕ) → IsWrongAt opening told line answer entries → entries' ≡ length (entries_among (told.items ++ item ∷ [])) → entries' ≤ longest_history → IsWrongAt opening (with_item n told item) line answer entries'
  wrong_before opening line answer entries entries' w e few =
      let low = w.within in
      record {
        front = w.front;
        item = w.item;
        rest = w.rest ++ item ∷ [];
        items_are = ap (λ (l : List Item). l ++ item ∷ []) w.items_are ∙ append_assoc w.front (w.item ∷ w.rest) (item ∷ []);
        next = w.next;
        within = omega (arith, low, length-append told.lines (n ∷ []));
        line_is = w.line_is ∙ sym (get_front told.lines (n ∷ []) (length w.front) w.within);
        entries_are = e;
        few = few;
      }

passed : (told : Told) (n : ℕ) (item : Item) (opening : State) (h : Hearing) (stand : Stand) → is_legal stand ≡ false → StandsAt opening told h stand → StandsAt opening (with_item n told item) h (passed_over item stand)
passed told n item opening h Legal e s = let no : true ≡ false = e in cc no
passed told n Checkpoint opening h Full e s = omega (arith, s, no_fewer told.items Checkpoint)
passed told n (Entered entry) opening h Full e s = omega (arith, s, no_fewer told.items (Entered entry))
passed told n Checkpoint opening h (Wrong line answer entries) e s =
    wrong_before told n Checkpoint opening line answer entries entries s (s.entries_are ∙ sym (with_checkpoint told.items)) s.few
passed told n (Entered entry) opening h (Wrong line answer entries) e s = go (nat_le longest_history entries) refl
  where
    go : (b : Bool) → nat_le longest_history entries ≡ b → StandsAt opening (with_item n told (Entered entry)) h (passed_over (Entered entry) (Wrong line answer entries))
    go true f =
        let many : longest_history ≤ entries = grind (arith, nat_tests, f) in
        let are = s.entries_are in
        rw f (omega (arith, many, are, with_entry told.items entry))
    go false f =
        let room : entries < longest_history = grind (arith, nat_tests, f) in
        let are = s.entries_are in
        rw f (wrong_before told n (Entered entry) opening line answer entries (entries + 1) s (omega (arith, are, with_entry told.items entry)) (omega (arith, room)))

pub passes : (told : Told) (n : ℕ) (item : Item) (course : Course) (stand : Stand) → IsCourse told course → is_legal course.stand ≡ false → stand ≡ passed_over item course.stand
    → IsCourse (with_item n told item) (record { profile = course.profile; auditor = course.auditor; stand = stand })
passes told n item course stand c e is = turned told n item course c course.auditor stand (rw is (passed told n item (opened_with c.settings) course.auditor course.stand e c.stands))

-- an answer of a call that isn't this fault
pub has_room : {A F : Type 0} (result : Result A F) (found : A) (fault : F) (entry : Type 0) (n : ℕ) → result ≡ Ok found → (entry × (longest_history ≤ n) → result ≡ Err fault) → entry → n < longest_history
has_room result found fault entry n e h is = go (nat_le longest_history n) refl
  where
    go : (b : Bool) → nat_le longest_history n ≡ b → n < longest_history
    go true f = let no : Err fault ≡ Ok found = sym (h (is, grind (arith, nat_tests, f))) ∙ e in cc no
    go false f = grind (arith, nat_tests, f)

-- what was found
pub wrong_found : (opening : State) (items : List Item) (item : Item) (finding : Finding) (new : Hearing) (answer : Answer) → finding ≡ WrongAnswer → IsFound (unasked opening) items item finding new → answer ≡ new.answer → IsWrongNext opening items item (Some answer)
wrong_found opening items item finding new answer e f a = rw a (rw e at f)

pub nobody_found : (opening : State) (items : List Item) (item : Item) (finding : Finding) (new : Hearing) → finding ≡ NoSuchActor → IsFound (unasked opening) items item finding new → IsWrongNext opening items item None
nobody_found opening items item finding new e f = rw e at f

-- A LINE

-- a remark
pub remark_read : (n : ℕ) (told : Told) (line : List ℕ) → is_remark line ≡ true → with_line n told line ≡ Some told
remark_read n told line e = rw e refl

-- what a line that is none tells
pub first_told : (n : ℕ) (told : Told) (line : List ℕ) → is_remark line ≡ false → told ≡ nothing_told → with_line n told line ≡ opened_by line
first_told n told line e is = rw (e, is) refl

pub next_told : (n : ℕ) (told : Told) (line : List ℕ) (course : Course) → is_remark line ≡ false → IsCourse told course → with_line n told line ≡ told_next n course.profile told line
next_told n told line course e c = rw (e, c.told_is, c.profile_is) refl

-- the configuration was told
pub begins : (n : ℕ) (line : List ℕ) (s : Settings) (profile : Profile) (auditor : Hearing) → Some s ≡ settings_in line → profile ≡ s.profile → HasHeard (unasked (opened_with s)) [] auditor
    → IsTold (Ok (record { profile = profile; auditor = auditor; stand = Legal })) n line (opened_by line)
begins n line s profile auditor e p h =
    (record { settings = Some s; items = []; lines = [] }, rw (sym e) refl, record { settings = s; told_is = refl; profile_is = p; numbered = refl; stands = h })

pub no_first : (line : List ℕ) → None ≡ settings_in line → opened_by line ≡ None
no_first line e = rw (sym e) refl

pub no_item : (n : ℕ) (profile : Profile) (told : Told) (line : List ℕ) → None ≡ item_of profile (line ++ 10 ∷ []) → told_next n profile told line ≡ None
no_item n profile told line e = rw (sym e) refl

pub noted : (result : Result (Unit {0}) (Stop AuditFault)) (n : ℕ) (profile : Profile) (told : Told) (line : List ℕ) (item : Item) (new : Option Course) → Some item ≡ item_of profile (line ++ 10 ∷ []) → IsNoted result (with_item n told item) new
    → IsRead result n line (told_next n profile told line) new
noted (Ok done) n profile told line item new e s = (with_item n told item, rw (sym e) refl, s)
noted (Err stop) n profile told line item new e s = rw s tt

-- a reading of the first line is one of the whole
pub told_read : (result : Result Course (Stop AuditFault)) (n : ℕ) (line : List ℕ) (course : Course) → result ≡ Ok course → IsTold result n line (opened_by line) → IsRead (Ok tt) n line (opened_by line) (Some course)
told_read result n line course e t = rw e at t

pub read_as : (result : Result (Unit {0}) (Stop AuditFault)) (n : ℕ) (line : List ℕ) (a b : Option Told) (new : Option Course) → a ≡ b → IsRead result n line b new → IsRead result n line a new
read_as result n line a b new e r = rw e r

-- WHAT IS SAID

same_settings : (told : Told) (a b : Settings) → told.settings ≡ Some a → told.settings ≡ Some b → a ≡ b
same_settings told a b e f = let same : Some a ≡ Some b = sym e ∙ f in cc same

module _ (told : Told) (course : Course) (c : IsCourse told course) (printed : List ℕ) (fault : Option AuditFault) where
  said_of : IsAudited (opened_with c.settings) told.items told.lines (record { printed = printed; fault = fault }) → IsSaidOf told (record { printed = printed; fault = fault })
  said_of a = λ s is. subst (λ (x : Settings). IsAudited (opened_with x) told.items told.lines (record { printed = printed; fault = fault })) (same_settings told c.settings s c.told_is is) a

  all_told : (told_text : List ℕ) (ends : Option AuditFault) → printed ≡ told_text → fault ≡ ends → ◌≡◌ {A = Printed AuditFault} (record { printed = printed; fault = fault }) (record { printed = told_text; fault = ends })
  all_told told_text ends p f = rw (p, f) refl

  pub said_legal : course.stand ≡ Legal → (calls : ℕ) (books : Books) → ((opening : State) (items : List Item) → HasHeard (unasked opening) items course.auditor → calls ≡ length (entries_among items)) → calls ≤ longest_history
      → ((base : Base) (items : List Item) → HasHeard base items course.auditor → books ≡ books_over base items) → printed ≡ codes "legal=yes" ++ books_text calls books → fault ≡ None
      → IsSaidOf told (record { printed = printed; fault = fault })
  said_legal e calls books f few g p n =
      let opening = opened_with c.settings in
      let heard : HasHeard (unasked opening) told.items course.auditor = subst (λ (stand : Stand). StandsAt opening told course.auditor stand) e c.stands in
      let many = f opening told.items heard in
      let sums = g (unasked opening) told.items heard in
      said_of (legal (omega (arith, many, few)) heard.legal (all_told (legal_text opening told.items) None (p ∙ ap (λ (k : ℕ). codes "legal=yes" ++ books_text k books) many ∙ ap (λ (b : Books). codes "legal=yes" ++ books_text (length (entries_among told.items)) b) sums) n))

  pub said_wrong : (line : ℕ) (answer : Option Answer) (entries : ℕ) → course.stand ≡ Wrong line answer entries → printed ≡ wrong_text course.profile line answer → fault ≡ Some (Illegal line)
      → IsSaidOf told (record { printed = printed; fault = fault })
  said_wrong line answer entries e p f =
      let opening = opened_with c.settings in
      let w : IsWrongAt opening told line answer entries = subst (λ (stand : Stand). StandsAt opening told course.auditor stand) e c.stands in
      let are = w.entries_are in
      let few = w.few in
      let place = length w.front in
      let there : answer_at opening told.items place ≡ answer = ap (λ (l : List Item). answer_at opening l place) w.items_are ∙ w.next.there w.rest in
      said_of (wrong place (omega (arith, are, few)) (subst (λ (l : List Item). IsFirstWrong opening l place) (sym w.items_are) (w.next.first w.rest))
      (all_told (wrong_text opening.settings.profile (get_or told.lines place 0) (answer_at opening told.items place)) (Some (Illegal (get_or told.lines place 0)))
      (rw (there, sym w.line_is) (p ∙ ap (λ (profile : Profile). wrong_text profile line answer) c.profile_is)) (rw (sym w.line_is) f)))

  pub said_full : course.stand ≡ Full → printed ≡ [] → fault ≡ Some Exhausted → IsSaidOf told (record { printed = printed; fault = fault })
  said_full e p f =
      let many : longest_history < length (entries_among told.items) = subst (λ (stand : Stand). StandsAt (opened_with c.settings) told course.auditor stand) e c.stands in
      said_of (full many (all_told [] (Some Exhausted) p f))

  pub said_in_all : (n : ℕ) → IsSaidOf told (record { printed = printed; fault = fault }) → IsAuditOf (told_in_all n told.settings told) (record { printed = printed; fault = fault })
  said_in_all n s = rw c.told_is (s c.settings c.told_is)

pub said_nothing : (told : Told) (n : ℕ) (printed : List ℕ) (fault : Option AuditFault) → told ≡ nothing_told → ◌≡◌ {A = Printed AuditFault} (record { printed = printed; fault = fault }) (fails (Text n Words))
    → IsAuditOf (told_in_all n told.settings told) (record { printed = printed; fault = fault })
said_nothing told n printed fault none e = rw none e

-- of a verdict
pub accepted : {E : Type 0} (told : Told) (course : Course) → IsCourse told course → course.stand ≡ Legal → (calls : ℕ) (books : Books) → ((opening : State) (items : List Item) → HasHeard (unasked opening) items course.auditor → calls ≡ length (entries_among items)) → calls ≤ longest_history
    → ((base : Base) (items : List Item) → HasHeard base items course.auditor → books ≡ books_over base items)
    → (result : Result Verdict E) → IfOk result (λ v. v.text.items ≡ codes "legal=yes" ++ books_text calls books) → IfOk result (λ v. v.fault ≡ None) → IfOk result (λ v. IsSaidOf told (told_of v))
accepted told course c e calls books f few g (Ok v) text none = said_legal told course c v.text.items v.fault e calls books f few g text none
accepted told course c e calls books f few g (Err want) text none = tt

pub refused : {E : Type 0} (told : Told) (course : Course) → IsCourse told course → (line : ℕ) (answer : Option Answer) (entries : ℕ) → course.stand ≡ Wrong line answer entries
    → (result : Result Verdict E) → IfOk result (λ v. v.text.items ≡ wrong_text course.profile line answer) → IfOk result (λ v. v.fault ≡ Some (Illegal line)) → IfOk result (λ v. IsSaidOf told (told_of v))
refused told course c line answer entries e (Ok v) text fault = said_wrong told course c v.text.items v.fault line answer entries e text fault
refused told course c line answer entries e (Err want) text fault = tt

pub in_all : {E : Type 0} (told : Told) (course : Course) → IsCourse told course → (n : ℕ) (result : Result Verdict E) → IfOk result (λ v. IsSaidOf told (told_of v)) → IfOk result (λ v. IsAuditOf (told_in_all n told.settings told) (told_of v))
in_all told course c n (Ok v) s = said_in_all told course c v.text.items v.fault n s
in_all told course c n (Err want) s = tt
