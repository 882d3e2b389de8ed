-- THE FIRST LINE: set links=L method=W a=X b=Y sio=HH, behind which profile=narrow or profile=wide may stand.
use Rattle.std.specs.Prelude.{ℕ, Bool, ◌==◌, ◌%◌, ◌&&◌, ◌^◌, nat_lt, nat_le, List, length, Option, Some, None, Err, if◌then◌else◌, codes, is_none, is_some, unwrap_or}
use Rattle.std.specs.Option.{option_map, option_and_then}
use Rattle.std.specs.Result.{result_ok}
use Rattle.std.specs.List.{position_or_len, before_first, after_first}
use Rattle.std.specs.Str.{bytes_eq}
use Rattle.l2_units.specs.declared.profile.Profile.{Profile}
use Rattle.l2_units.specs.declared.profile.Profile.TheVariants.{Narrow, Wide}
use Rattle.set_events.specs.Config.{fault_of, most_links, point_codes}
use Rattle.set_events.specs.Method.{is_method}
use Rattle.set_events.specs.declared.config.Method.{Method}
use Rattle.set_events.specs.declared.config.Method.TheVariants.{Basic, Cyclic}
use Rattle.text_base.specs.Figures.{number_of, number_below, octet_of}
use Rattle.text_forms.specs.declared.mistake.Mistake.{Mistake}
use Rattle.text_forms.specs.declared.mistake.Mistake.TheVariants.{NotSet, OpeningShort, LinksName, LinksRange, MethodName, MethodLimits, WideMethodLimits, CodeAName, CodeBName, CodeRange, SioName, SioDigits, SioIndicator, ProfileValue, Surplus}
use Rattle.text_forms.specs.declared.opened.Values.{Values}
use Rattle.text_forms.specs.Words.{Place, Read, Rest, at_place, at_place_or, at_end, behind_name, first_word, judged, value_in, words_from}

-- a word NAME=VALUE with another name, or with another value
abbrev pub wrong_value : List ℕ → Mistake → Mistake → List ℕ → Mistake
wrong_value name other_name other_value word =
    if is_some (value_in name word) then other_value else other_name

-- links=L, 1 to 16 links (Q.704 15.2)
abbrev pub few_links : ℕ → Option ℕ
few_links links = if nat_le 1 links && nat_le links most_links then Some links else None

abbrev pub links_of : List ℕ → Option ℕ
links_of word = option_and_then few_links (option_and_then number_of (value_in (codes "links=") word))

abbrev pub links : Place ℕ
links = record { value = links_of; wrong = wrong_value (codes "links=") LinksName LinksRange }

-- method=basic, or method=cyclic:N1:N2 with limits that can be met in the profile

abbrev pub is_colon : ℕ → Bool
is_colon c = c == 58

abbrev pub n1_of : List ℕ → Option ℕ
n1_of word = number_below (2 ^ 16) (before_first is_colon word)

abbrev pub n2_of : List ℕ → Option ℕ
n2_of word = number_below (2 ^ 32) (after_first is_colon word)

abbrev pub limits_of : List ℕ → Option Method
limits_of word =
    if nat_lt (position_or_len is_colon word) (length word)
    then option_and_then (λ n1. option_map (Cyclic n1) (n2_of word)) (n1_of word)
    else None

abbrev pub method_of : List ℕ → Option Method
method_of word =
    if bytes_eq word (codes "method=basic") then Some Basic
    else option_and_then limits_of (value_in (codes "method=cyclic:") word)

abbrev pub met : Profile → Method → Option Method
met profile method = if is_method profile method then Some method else None

abbrev pub wrong_limits : Profile → Mistake
wrong_limits Narrow = MethodLimits
wrong_limits Wide = WideMethodLimits

abbrev pub a_method : Profile → Place Method
a_method profile = record {
  value = λ word. option_and_then (met profile) (method_of word);
  wrong = wrong_value (codes "method=cyclic:") MethodName (wrong_limits profile);
}

-- a point code of 14 bits behind a name and its sign (Q.704 2.2)
abbrev pub code_of : List ℕ → List ℕ → Option ℕ
code_of name word = option_and_then (number_below point_codes) (value_in name word)

abbrev pub code_a : Place ℕ
code_a = record { value = code_of (codes "a="); wrong = wrong_value (codes "a=") CodeAName CodeRange }

abbrev pub code_b : Place ℕ
code_b = record { value = code_of (codes "b="); wrong = wrong_value (codes "b=") CodeBName CodeRange }

-- sio=HH, whose service indicator, the low four bits, is 0
abbrev pub sio_of : List ℕ → Option ℕ
sio_of word = option_and_then octet_of (value_in (codes "sio=") word)

abbrev pub of_orders : ℕ → Option ℕ
of_orders sio = if sio % 16 == 0 then Some sio else None

abbrev pub wrong_sio : List ℕ → Mistake
wrong_sio word =
    if is_some (sio_of word) then SioIndicator
    else wrong_value (codes "sio=") SioName SioDigits word

abbrev pub an_sio : Place ℕ
an_sio = record { value = λ word. option_and_then of_orders (sio_of word); wrong = wrong_sio }

-- profile=narrow or profile=wide
abbrev pub profile_of : List ℕ → Option Profile
profile_of word =
    if bytes_eq word (codes "profile=narrow") then Some Narrow
    else (if bytes_eq word (codes "profile=wide") then Some Wide else None)

abbrev pub a_profile : Place Profile
a_profile = record { value = profile_of; wrong = wrong_value (codes "profile=") Surplus ProfileValue }

-- the profile that the seventh word tells, by which the method's limits go; the narrow one where it tells none
abbrev pub told_profile : List ℕ → Profile
told_profile text = unwrap_or (profile_of (first_word (words_from 6 text))) Narrow

-- what follows the first word, of a set of this profile
abbrev pub opening : Profile → Rest → Read Values
opening profile =
    at_place links (λ l. at_place (a_method profile) (λ m. at_place code_a (λ a. at_place code_b (λ b. at_place an_sio (λ s.
    at_place_or a_profile profile (λ _. at_end
    (record { links = l; method = m; code_a = a; code_b = b; sio = s; profile = profile })))))))

-- WHAT THE FIRST LINE SAYS, or the word at fault
abbrev pub opening_read : List ℕ → Read Values
opening_read text =
    if bytes_eq (first_word text) (codes "set") then opening (told_profile text) (behind_name text OpeningShort)
    else Err (record { column = 0; mistake = judged (first_word text) NotSet })

abbrev pub first_line : List ℕ → Option Values
first_line text = result_ok (opening_read text)

-- values of which both ends can be made
abbrev pub is_end_of : Values → ℕ → ℕ → Bool
is_end_of v own far = is_none (fault_of v.profile v.links own far v.sio v.method)

abbrev pub fitting : Values → Option Values
fitting v =
    if is_end_of v v.code_a v.code_b && is_end_of v v.code_b v.code_a then Some v else None
