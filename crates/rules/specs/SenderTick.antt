-- A clock comes to a sender.
use Rattle.std.specs.Prelude.{ℕ, ◌+◌, ◌*◌, ◌/◌, min, Bool, true, false, cond, not, ◌&&◌, ◌||◌, List, map, length, Some, None, nat_le, nat_lt}
use Rattle.protocol.specs.Times.{longest_wait, silent_rounds}
use Rattle.parts.specs.declared.numbers.Numbers.{Numbers}
use Rattle.parts.specs.Numbers.{has, set_of}
use Rattle.rules.specs.declared.answers.Standing.TheVariants.{Expired as Lapsed}
use Rattle.rules.specs.declared.sender.Destination.{Destination}
use Rattle.rules.specs.declared.sender.Message.{Message}
use Rattle.rules.specs.declared.sender.SenderRow.{SenderRow}
use Rattle.rules.specs.declared.sender.SenderRow.TheVariants.{Vacant, Draft, Sending, Waiting, Ending, Closing, Ended}
use Rattle.rules.specs.Lists.{any_of}
use Rattle.rules.specs.Outcomes.{Outcome, refuse, accept, is_clock, reached}
use Rattle.rules.specs.Refusals.{bad_clock}
use Rattle.rules.specs.SenderState.{Roster, SenderModel, with_each, with_standing, is_open, open_of, open_answering}
use Rattle.rules.specs.Stores.{freed_where}

-- The wait grows to the whole part of three halves of it, up to the longest.
abbrev pub longer : ℕ → ℕ
longer wait = min (wait * 3 / 2) longest_wait

-- every number missing at one of these destinations
unfoldable pub missing_at_any : List Destination → Numbers
missing_at_any ds = set_of (λ n. any_of (λ d. has d.missing n) ds)

-- At a waiting deadline: Address and what is missing at the open answering destinations become due, and the wait grows.
-- With none of them the same is done for the silent ones, a few times, and the wait stays.
unfoldable pub resent : Roster → Message → (deadline wait rounds : ℕ) → SenderRow
resent roster m deadline wait rounds =
    cond (nat_lt 0 (length (open_answering roster m))) (Sending m true (missing_at_any (open_answering roster m)) (longer wait) rounds)
    (cond (nat_lt rounds silent_rounds) (Sending m true (missing_at_any (open_of m)) wait (rounds + 1))
    (Waiting m deadline wait rounds))

-- At expiry the open destinations of a message become expired; what they lacked stays.
abbrev pub lapsed_at : Destination → Destination
lapsed_at d = cond (is_open d) (with_standing Lapsed d.missing d) d

-- An ending row is ended at its expiry, and at its deadline unless an entry counted since the last Address.
unfoldable pub ends_at : (clock : ℕ) → SenderRow → Bool
ends_at clock Vacant = false
ends_at clock (Draft i n) = false
ends_at clock (Sending m a d w r) = false
ends_at clock (Waiting m d w r) = false
ends_at clock (Ending m None counted) = reached clock m.expiry
ends_at clock (Ending m (Some deadline) counted) = reached clock m.expiry || (nat_le deadline clock && not counted)
ends_at clock (Closing m) = false
ends_at clock (Ended m) = false

-- One step for each row and tick: expiry first, then the deadline. A spent ending deadline makes the Address due.
unfoldable pub row_ticked : Roster → (clock : ℕ) → SenderRow → SenderRow
row_ticked roster clock Vacant = Vacant
row_ticked roster clock (Draft i n) = Draft i n
row_ticked roster clock (Sending m address due wait rounds) =
    cond (reached clock m.expiry) (Closing (with_each lapsed_at m)) (Sending m address due wait rounds)
row_ticked roster clock (Waiting m deadline wait rounds) =
    cond (reached clock m.expiry) (Closing (with_each lapsed_at m))
    (cond (nat_le deadline clock) (resent roster m deadline wait rounds) (Waiting m deadline wait rounds))
row_ticked roster clock (Ending m None counted) = cond (ends_at clock (Ending m None counted)) (Ended m) (Ending m None counted)
row_ticked roster clock (Ending m (Some deadline) counted) =
    cond (ends_at clock (Ending m (Some deadline) counted)) (Ended m)
    (cond (nat_le deadline clock) (Ending m None counted) (Ending m (Some deadline) counted))
row_ticked roster clock (Closing m) = Closing m
row_ticked roster clock (Ended m) = Ended m

-- Each row makes its step, and those that end free their store rows.
abbrev pub ticked : SenderModel → ℕ → SenderModel
ticked s clock = record {
  table = record {
    source = s.table.source;
    next = s.table.next;
    now = clock;
    roster = s.table.roster;
    rows = map (row_ticked s.table.roster clock) s.table.rows;
  };
  held = freed_where (ends_at clock) s.table.rows s.held;
}

-- Tick brings a clock, at least now and at most the last.
unfoldable pub sender_tick : SenderModel → ℕ → Outcome SenderModel (Unit {0})
sender_tick s clock = cond (is_clock s.table.now clock) (accept (ticked s clock) tt) (refuse s (bad_clock s.table.now))
