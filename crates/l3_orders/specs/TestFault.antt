-- Which bodies are refused as a test message, and why.
use Rattle.std.specs.Prelude.{ℕ, ◌+◌, ◌*◌, ◌/◌, ◌%◌, ◌==◌, ◌||◌, not, nat_lt, is_some, Option, Some, None, List, length, slice_index, if◌then◌else◌}
use Rattle.l3_orders.specs.Grammar.{heading}
use Rattle.l3_orders.specs.Tests.{is_between}
use Rattle.l3_orders.specs.declared.link_test.TestKind.{TestKind}
use Rattle.l3_orders.specs.declared.link_test.TestKind.TheVariants.{Message, Acknowledgement}
use Rattle.l3_orders.specs.declared.test_reading.TestFault.{TestFault}
use Rattle.l3_orders.specs.declared.test_reading.TestFault.TheVariants.{NotTest, Unknown, Length, Stranger}

-- the numbers of the refusals
abbrev pub fault_number : TestFault → ℕ
fault_number NotTest = 1
fault_number Unknown = 2
fault_number Length = 3
fault_number Stranger = 4

-- the test with this heading code
abbrev pub kind_with : ℕ → Option TestKind
kind_with code =
    if code == heading 1 1 then Some Message
    else (if code == heading 1 2 then Some Acknowledgement else None)

-- the label of a body as a number, least significant first
abbrev pub label_in : List ℕ → ℕ
label_in octets =
    slice_index octets 1 + 0x100 * slice_index octets 2 + 0x10000 * slice_index octets 3
    + 0x1000000 * slice_index octets 4

-- the first refusal that holds, in the order of their numbers
abbrev pub test_refusal : ℕ → ℕ → List ℕ → Option TestFault
test_refusal opc dpc octets =
    if (length octets == 0) || not (slice_index octets 0 % 16 == 1) then Some NotTest
    else (if nat_lt (length octets) 6 || not (is_some (kind_with (slice_index octets 5))) then Some Unknown
    else (if nat_lt (length octets) 8 || not (length octets == 7 + slice_index octets 6 / 16) then Some Length
    else (if not (is_between (label_in octets) opc dpc) then Some Stranger
    else None)))
