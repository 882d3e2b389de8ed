-- What holds of the end of a set.
use Rattle.std.proofs.Common.{◌≡◌, ◌≤◌, ◌^◌}
use Rattle.bank_crew.specs.declared.end.SetEnd.{SetEnd}
use Rattle.run_text.specs.Running.{IsAnEnd}
use Rattle.set_model.specs.Rows.{total_of}
use Rattle.set_model.specs.History.{IsLegal}

-- its history is legal, and each message that it accepted stands in one place
pub record EndFacts (end : SetEnd) : Type 0 where
  pub legal : IsLegal end.closed.base.state end.closed.history.items
  pub placed_all : total_of end.closed.counts ≡ end.closed.books.messages
  pub few : end.closed.books.messages ≤ 2 ^ 48

pub end_facts : (end : SetEnd) → IsAnEnd end → EndFacts end
end_facts end is = let closed = is.1 in record { legal = closed.legal; placed_all = closed.placed; few = closed.few }
