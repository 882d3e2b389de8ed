-- NUMBERS THAT THE LINES OF A TERMINAL TELL BY NAME.
use Rattle.std.specs.Prelude.{ℕ, ◌&&◌, nat_le, List, Option, Some, None, if◌then◌else◌, codes}
use Rattle.std.specs.Option.{option_and_then}
use Rattle.text_base.specs.Figures.{number_of}
use Rattle.text_forms.specs.Words.{value_in}
use Rattle.text_forms.specs.declared.named.Named.{Named}
use Rattle.text_forms.specs.declared.named.Named.TheVariants.{T1, T2, T3, T5, T6, T7, T4, T17, K1, K2, Bsn, Bib, Fsn, Fib, Status, FirstStatus, Times, FirstTimes, Flags, Turns}

-- the name, with its sign
abbrev pub name_of : Named → List ℕ
name_of T1 = codes "t1="
name_of T2 = codes "t2="
name_of T3 = codes "t3="
name_of T5 = codes "t5="
name_of T6 = codes "t6="
name_of T7 = codes "t7="
name_of T4 = codes "t4="
name_of T17 = codes "t17="
name_of K1 = codes "k1="
name_of K2 = codes "k2="
name_of Bsn = codes "bsn="
name_of Bib = codes "bib="
name_of Fsn = codes "fsn="
name_of Fib = codes "fib="
name_of Status = codes "status="
name_of FirstStatus = codes "status="
name_of Times = codes "x"
name_of FirstTimes = codes "x"
name_of Flags = codes ""
name_of Turns = codes ""

-- a timer has a length, what stands on a line stands there at least once, and turns may be none
abbrev pub least : Named → ℕ
least Bsn = 0
least Bib = 0
least Fsn = 0
least Fib = 0
least Status = 0
least FirstStatus = 0
least Turns = 0
least _ = 1

-- numbers of seven bits, a bit, a status of three bits (Q.703 2.2, 11.1), at most 2^20 times, lengths below 2^32
abbrev pub most : Named → ℕ
most Bsn = 127
most Bib = 1
most Fsn = 127
most Fib = 1
most Status = 7
most FirstStatus = 7
most Times = 1048576
most FirstTimes = 1048576
most Flags = 1048576
most _ = 4294967295

abbrev pub within : ℕ → ℕ → ℕ → Option ℕ
within least most number = if nat_le least number && nat_le number most then Some number else None

-- the number that the word is, in its range
abbrev pub named_of : Named → List ℕ → Option ℕ
named_of named word =
    option_and_then (within (least named) (most named)) (option_and_then number_of (value_in (name_of named) word))

-- what is said of a word that isn't
abbrev pub named_text : Named → List ℕ
named_text T1 = codes "here stands t1=N, with N 1 to 4294967295"
named_text T2 = codes "here stands t2=N, with N 1 to 4294967295"
named_text T3 = codes "here stands t3=N, with N 1 to 4294967295"
named_text T5 = codes "here stands t5=N, with N 1 to 4294967295"
named_text T6 = codes "here stands t6=N, with N 1 to 4294967295"
named_text T7 = codes "here stands t7=N, with N 1 to 4294967295"
named_text T4 = codes "here stands t4=N, with N 1 to 4294967295"
named_text T17 = codes "here stands t17=N, with N 1 to 4294967295"
named_text K1 = codes "here stands k1=N, with N 1 to 4294967295"
named_text K2 = codes "here stands k2=N, with N 1 to 4294967295"
named_text Bsn = codes "here stands bsn=B, with B 0 to 127"
named_text Bib = codes "here stands bib=B, with B 0 or 1"
named_text Fsn = codes "here stands fsn=F, with F 0 to 127"
named_text Fib = codes "here stands fib=F, with F 0 or 1"
named_text Status = codes "here stands status=S, with S 0 to 7"
named_text FirstStatus = codes "here stands status=S, with S 0 to 7, or bsn=B and the rest of a header"
named_text Times = codes "here stands xN, how often, with N 1 to 1048576"
named_text FirstTimes = codes "here stands xN, how often, with N 1 to 1048576, or bsn=B and the rest of a header"
named_text Flags = codes "here stands the number of flags, 1 to 1048576"
named_text Turns = codes "here stands the number of turns, 0 to 4294967295"
