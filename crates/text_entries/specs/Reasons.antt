-- A LINE IN WORDS: behind the number that tells why something was refused, or why a message was given up, stand its words.
use Rattle.std.specs.Prelude.{ℕ, List, Option, Some, None, codes, unwrap_or, if◌then◌else◌}
use Rattle.std.specs.Option.{option_or}
use Rattle.std.specs.Str.{bytes_eq}

-- why a message isn't accepted
abbrev pub refused_offer : List ℕ → Option (List ℕ)
refused_offer line =
    if bytes_eq line (codes "refused 1\n") then Some (codes "refused 1 (too short)\n")
    else (if bytes_eq line (codes "refused 2\n") then Some (codes "refused 2 (too long)\n")
    else (if bytes_eq line (codes "refused 3\n") then Some (codes "refused 3 (reserved SI)\n")
    else (if bytes_eq line (codes "refused 4\n") then Some (codes "refused 4 (stream full)\n")
    else None)))

-- why something else is refused
abbrev pub refused_else : List ℕ → Option (List ℕ)
refused_else line =
    if bytes_eq line (codes "refused 5\n") then Some (codes "refused 5 (not up)\n")
    else (if bytes_eq line (codes "refused 6\n") then Some (codes "refused 6 (not down)\n")
    else (if bytes_eq line (codes "refused 7\n") then Some (codes "refused 7 (not settled)\n")
    else (if bytes_eq line (codes "refused 8\n") then Some (codes "refused 8 (no such message)\n")
    else (if bytes_eq line (codes "refused 9\n") then Some (codes "refused 9 (nothing to do)\n")
    else (if bytes_eq line (codes "refused 10\n") then Some (codes "refused 10 (no such link)\n")
    else (if bytes_eq line (codes "refused 11\n") then Some (codes "refused 11 (finished)\n")
    else None))))))

-- why a message was given up
abbrev pub given_up : List ℕ → Option (List ℕ)
given_up line =
    if bytes_eq line (codes "found discarded 1\n") then Some (codes "found discarded 1 (emergency)\n")
    else (if bytes_eq line (codes "found discarded 2\n") then Some (codes "found discarded 2 (wrong FSN)\n")
    else (if bytes_eq line (codes "found discarded 3\n") then Some (codes "found discarded 3 (no answer)\n")
    else None))

-- any other text stays
abbrev pub in_words : List ℕ → Option (List ℕ)
in_words line = option_or (refused_offer line) (option_or (refused_else line) (given_up line))

unfoldable pub named : List ℕ → List ℕ
named line = unwrap_or (in_words line) line
