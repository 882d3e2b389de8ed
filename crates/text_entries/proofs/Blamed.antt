-- Each line of a history that can't be read has a word at fault.
use Rattle.std.proofs.Common.{refl, ◌≡◌, ℕ, Bool, true, false, List, [], ◌∷◌, ◌++◌, Option, Some, None, is_some, Result, Ok, Err, if◌then◌else◌}
use Rattle.std.specs.Option.{option_map, option_and_then}
use Rattle.std.specs.Result.{result_err, result_ok}
use Rattle.std.specs.Str.{bytes_eq}
use Rattle.l2_units.specs.declared.profile.Profile.{Profile}
use Rattle.set_core.specs.declared.item.Item.{Item}
use Rattle.set_core.specs.declared.item.Item.TheVariants.{Entered, Checkpoint}
use Rattle.set_events.specs.declared.event.Actor.{Actor}
use Rattle.set_events.specs.declared.event.Event.{Event}
use Rattle.set_events.specs.declared.answer.Answer.{Answer}
use Rattle.set_events.specs.declared.history.Entry.{Entry}
use Rattle.text_entries.specs.Blaming.{EachLineIsExplained, actor_read, answer_read, asked_read, blame_in, explained_line, text_blamed}
use Rattle.text_entries.specs.Entries.{entry_text}
use Rattle.text_entries.specs.FirstLine.{own_settings, settings_in}
use Rattle.text_entries.specs.Pieces.{checkpoint_text, item_of}
use Rattle.text_entries.specs.Reading.{actor_in, asked_in, entry_of, others, told, told_in, word}
use Rattle.text_forms.specs.Opening.{opening_read}
use Rattle.text_forms.specs.Words.{Read}
use Rattle.text_forms.specs.declared.opened.Values.{Values}

map_some : {A B : Type 0} (f : A → B) (o : Option A) → is_some o ≡ true → is_some (option_map f o) ≡ true
map_some f None e = e
map_some f (Some a) e = refl

module _ (profile : Profile) (line whole : List ℕ) where
  by_text : (entry : Entry) (same : Bool) → bytes_eq (entry_text profile entry) whole ≡ same → (if same then Some entry else None) ≡ None → is_some (text_blamed profile line whole entry) ≡ true
  by_text entry true e h = let no : Some entry ≡ None = h in cc no
  by_text entry false e h = rw e refl

  by_answer : (who : Actor) (event : Event) (t : Option Answer)
      → option_and_then (λ entry. if bytes_eq (entry_text profile entry) whole then Some entry else None) (option_map (λ answer. record { who = who; event = event; answer = answer }) t) ≡ None
      → is_some (answer_read profile line whole who event t) ≡ true
  by_answer who event None h = refl
  by_answer who event (Some answer) h = by_text (record { who = who; event = event; answer = answer }) (bytes_eq (entry_text profile (record { who = who; event = event; answer = answer })) whole) refl h

  by_asked : (who : Actor) (e : Option Event)
      → option_and_then (λ entry. if bytes_eq (entry_text profile entry) whole then Some entry else None)
      (option_and_then (λ event. option_map (λ answer. record { who = who; event = event; answer = answer }) (told_in profile (told whole))) e) ≡ None
      → is_some (asked_read profile line whole who e) ≡ true
  by_asked who None h = refl
  by_asked who (Some event) h = by_answer who event (told_in profile (told whole)) h

  by_actor : (a : Option Actor)
      → option_and_then (λ entry. if bytes_eq (entry_text profile entry) whole then Some entry else None)
      (option_and_then (λ who. option_and_then (λ event. option_map (λ answer. record { who = who; event = event; answer = answer }) (told_in profile (told whole))) (asked_in profile (others (others whole)))) a) ≡ None
      → is_some (actor_read profile line whole a) ≡ true
  by_actor None h = refl
  by_actor (Some who) h = by_asked who (asked_in profile (others (others whole))) h

item_none : (b : Bool) (o : Option Entry) → (if b then Some Checkpoint else option_map Entered o) ≡ None → o ≡ None
item_none true o h = let no : Some Checkpoint ≡ None = h in cc no
item_none false None h = refl
item_none false (Some entry) h = let no : Some (Entered entry) ≡ None = h in cc no

first_by : (r : Read Values) → option_map own_settings (result_ok r) ≡ None → is_some (result_err r) ≡ true
first_by (Ok v) h = let no : Some (own_settings v) ≡ None = h in cc no
first_by (Err blame) h = refl

pub each_explained : EachLineIsExplained
each_explained = record {
  first = λ number line h. map_some _ (blame_in None line) (first_by (opening_read line) h);
  further = λ profile number line h.
      let whole : List ℕ = line ++ 10 ∷ [] in
      map_some _ (blame_in (Some profile) line)
      (by_actor profile line whole (actor_in (word whole) (word (others whole))) (item_none (bytes_eq whole checkpoint_text) (entry_of profile whole) h));
}
