-- Commands that make several calls over one connection (this project's programs), by their options.
use Rattle.std.specs.Prelude.{ℕ, ◌-◌, ◌^◌, Bool, true, false, Option, None, Some, is_some, unwrap_or, ◌||◌}
use Rattle.std.specs.Prelude.{if◌then◌else◌}
use Rattle.sysv_clients.specs.declared.command.Form.{Form}
use Rattle.sysv_clients.specs.declared.command.Form.TheVariants.{Line, Raw, Zero, Object}
use Rattle.sysv_clients.specs.declared.command.Receipt.{Receipt}
use Rattle.sysv_clients.specs.declared.command.Target.TheVariants.{Id, Key, All}
use Rattle.sysv_clients.specs.declared.command.Task.{Task}
use Rattle.sysv_clients.specs.declared.command.Task.TheVariants.{List as Table, Show, Remove, Make, Send, Receive}
use Rattle.sysv_clients.specs.declared.sending.Wording.TheVariants.{Bodies, Objects}
use Rattle.sysv_clients.specs.declared.stream.Receiving.{Receiving}
use Rattle.sysv_model.specs.declared.cred.Cred.{Cred}
use Rattle.sysv_connect.specs.declared.how.How.{How}
use Rattle.sysv_connect.specs.declared.batches.Way.{Way}
use Rattle.sysv_connect.specs.declared.batches.Way.TheVariants.{Stream, Purge, Hold, Lines, Clear, Once}
use Rattle.sysv_connect.specs.Purge.{purging_of}

-- The number of messages by the number that is stated, if one is, and whether all are wanted.
abbrev pub count_by : Option ℕ → Bool → ℕ
count_by (Some count) follows = count
count_by None true = 2 ^ 64 - 1
count_by None false = 1

-- The receives of a rcv with these options.
abbrev pub receiving_of : Cred → Receipt → How → Receiving
receiving_of cred receipt how =
    record {
      cred = cred;
      receipt = receipt;
      count = count_by how.count how.follow;
      ahead = unwrap_or how.ahead 1;
    }

-- A message in this form is not its body and an LF.
abbrev pub is_of_options : Form → Bool
is_of_options Line = false
is_of_options Raw = true
is_of_options Zero = true
is_of_options Object = true

-- A rcv with these options shows its messages as a stream.
abbrev pub is_of_stream : Receipt → How → Bool
is_of_stream receipt how =
    how.follow || (is_some how.count || (is_of_options receipt.form || receipt.show_type))

-- How a task with these options is done.
abbrev pub way_by : Cred → Task → How → Way
way_by cred (Receive receipt) how =
    if how.purge then Purge (purging_of cred receipt)
    else if how.holds then Hold (receiving_of cred receipt how)
    else if is_of_stream receipt how then Stream (receiving_of cred receipt how) else Once
way_by cred (Send key text mtype nowait) how =
    if how.lines then Lines (record { cred = cred; key = key; wording = Bodies mtype; nowait = nowait })
    else if how.objects then Lines (record { cred = cred; key = key; wording = Objects; nowait = nowait }) else Once
way_by cred (Remove All) how = Clear
way_by cred (Remove (Id id)) how = Once
way_by cred (Remove (Key key)) how = Once
way_by cred (Table format) how = Once
way_by cred (Show id) how = Once
way_by cred (Make making) how = Once
