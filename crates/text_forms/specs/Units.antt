-- A UNIT ON A LINE of a terminal, as words tell it: its octets without check octets, and how often.
use Rattle.std.specs.Prelude.{ℕ, Bool, true, false, ◌+◌, ◌*◌, min, List, [], ◌∷◌, length, Option, Some, None, Ok, if◌then◌else◌, codes, is_some}
use Rattle.std.specs.Str.{bytes_eq}
use Rattle.text_forms.specs.declared.asked.Repeated.{Repeated}
use Rattle.text_forms.specs.declared.units.Head.{Head}
use Rattle.text_forms.specs.declared.named.Named.{Named}
use Rattle.text_forms.specs.declared.named.Named.TheVariants.{Bsn, Bib, Fsn, Fib, Status, FirstStatus, Times, FirstTimes}
use Rattle.text_forms.specs.Words.{Read, Rest, Word, at_place, at_place_or, at_end, behind, next_word, read_as, read_then, value_in}
use Rattle.text_forms.specs.Places.{a_body, a_named, any_unit}

abbrev pub repeated : List ℕ → ℕ → Repeated
repeated octets times = record { octets = octets; times = times }

-- bsn=B bib=B fsn=F fib=F, and what follows
abbrev pub told_head : Rest → Read (Head × Rest)
told_head =
    at_place (a_named Bsn) (λ bsn. at_place (a_named Bib) (λ bib. at_place (a_named Fsn) (λ fsn. at_place (a_named Fib) (λ fib rest.
    Ok (record { backward = bsn + 128 * bib; forward = fsn + 128 * fib; told = true }, rest)))))

-- BSN 127, BIB 1, FSN 127, FIB 1: nothing was sent or accepted yet
abbrev pub usual_head : Rest → Read (Head × Rest)
usual_head rest = Ok (record { backward = 255; forward = 255; told = false }, rest)

-- four words, or none of them
abbrev pub begins_head : Option (List ℕ) → Bool
begins_head None = false
begins_head (Some words) = is_some (value_in (codes "bsn=") words)

abbrev pub head : Rest → Read (Head × Rest)
head rest = if begins_head rest.left then told_head rest else usual_head rest

abbrev pub behind_head : (Head → Rest → Read Repeated) → Rest → Read Repeated
behind_head form rest = read_then (λ both. form both.0 both.1) (head rest)

-- xN, or nothing for once; the words of a header may stand in its place where there was none
unfoldable pub often : Named → List ℕ → Rest → Read Repeated
often named octets = at_place_or (a_named named) 1 (λ times. at_end (repeated octets times))

abbrev pub first_times : Bool → Named
first_times true = Times
first_times false = FirstTimes

abbrev pub first_status : Bool → Named
first_status true = Status
first_status false = FirstStatus

-- THE KINDS, by their header and what follows. The length indicator is 0, 1, or that of the body (Q.703 2.3.3).

-- fisu HEAD [xN]
abbrev pub fisu : Head → Rest → Read Repeated
fisu h = often (first_times h.told) (h.backward ∷ h.forward ∷ 0 ∷ [])

-- lssu HEAD status=S [xN]
abbrev pub lssu : Head → Rest → Read Repeated
lssu h = at_place (a_named (first_status h.told)) (λ status. often Times (h.backward ∷ h.forward ∷ 1 ∷ status ∷ []))

-- msu HEAD body=HEX [xN]
abbrev pub msu : Head → Rest → Read Repeated
msu h = at_place (a_body h.told) (λ body. often Times (h.backward ∷ h.forward ∷ min (length body) 63 ∷ body))

-- UNIT [xN], by the unit's word; or HEX [xN], 1 to 276 octets, whatever they say
abbrev pub unit_by : Word → Rest → Read Repeated
unit_by word rest =
    if bytes_eq word.octets (codes "fisu") then behind_head fisu rest
    else (if bytes_eq word.octets (codes "lssu") then behind_head lssu rest
    else (if bytes_eq word.octets (codes "msu") then behind_head msu rest
    else read_then (λ octets. often Times octets rest) (read_as any_unit word)))

abbrev pub unit : Rest → Read Repeated
unit rest = read_then (λ word. unit_by word (behind rest)) (next_word rest)
