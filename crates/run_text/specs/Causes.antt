-- THE CAUSES of a link's failure by their names (Q.703 12).
use Rattle.std.specs.Prelude.{◌==◌, ℕ, List, codes, if◌then◌else◌}

abbrev pub cause_name : ℕ → List ℕ
cause_name cause =
    if cause == 1 then codes "suerm" else (if cause == 2 then codes "bsn" else (if cause == 3 then codes "fib" else
    (if cause == 4 then codes "t1" else (if cause == 5 then codes "t6" else (if cause == 6 then codes "t7" else
    (if cause == 7 then codes "status" else (if cause == 8 then codes "alignment" else
    (if cause == 9 then codes "stop" else codes "none"))))))))
