-- What a client shows (this project's programs): the table of `ipcs` or its JSON objects, the
-- attributes of a queue, an identifier, or the message of `rcv`.
use Rattle.std.specs.Prelude.{ℕ, ℤ, Bool, List, [], ◌∷◌, ◌++◌, None, Some, flat_map, if◌then◌else◌, take}
use Rattle.std.specs.Fmt.{signed_decimal}
use Rattle.sysv_clients.specs.declared.command.Form.{Form}
use Rattle.sysv_clients.specs.declared.command.Form.TheVariants.{Line, Raw, Zero, Object}
use Rattle.sysv_clients.specs.declared.command.Format.TheVariants.{Table as AsTable, Json}
use Rattle.sysv_clients.specs.declared.command.Task.{Task}
use Rattle.sysv_clients.specs.declared.command.Task.TheVariants.{List as Table, Show, Remove, Make, Send, Receive}
use Rattle.sysv_clients.specs.declared.queue_line.TheConstants.{MAX_LINE}
use Rattle.sysv_clients.specs.declared.style.Style.{Style}
use Rattle.sysv_clients.specs.Object.{object_line}
use Rattle.sysv_clients.specs.Queue.{id_line, json_line, stat_lines}
use Rattle.sysv_clients.specs.Style.{style_of}
use Rattle.sysv_clients.specs.Table.{row_line, table_head}
use Rattle.sysv_clients.specs.Dialogue.{Exchange}
use Rattle.sysv_model.specs.declared.attributes.Row.{Row as RowOf}
use Rattle.sysv_wire.specs.declared.reply.ReplyContent.{ReplyContent}
use Rattle.sysv_wire.specs.declared.reply.ReplyContent.TheVariants.{Refused, Hello, HelloSlots, Get, Snd, Rcv, Stat}
use Rattle.sysv_wire.specs.declared.reply.ReplyContent.TheVariants.{Set, Rm, Row, Hold, Done, Back}

-- The line of a row.
abbrev pub row_text : Style → RowOf → List ℕ
row_text style row = if style.json then json_line row else row_line row

-- A message's type and a tab.
abbrev pub type_text : ℤ → List ℕ
type_text mtype = signed_decimal mtype ++ 9 ∷ []

-- A body with what comes before and after it: its type and a tab if they are wanted, and this end.
abbrev pub body_text : Bool → ℤ → (body end : List ℕ) → List ℕ
body_text shows mtype body end = (if shows then type_text mtype else []) ++ (body ++ end)

-- A body in a form: with an LF, without one, with a zero byte, or as a JSON object.
abbrev pub text_in : Form → Bool → ℤ → List ℕ → List ℕ
text_in Line shows mtype body = body_text shows mtype body (10 ∷ [])
text_in Raw shows mtype body = body_text shows mtype body []
text_in Zero shows mtype body = body_text shows mtype body (0 ∷ [])
text_in Object shows mtype body = object_line mtype body

-- A message: no more bytes of its body than the size that was requested, in the form that was.
abbrev pub message_text : Style → ℤ → List ℕ → List ℕ
message_text style mtype given = text_in style.form style.shows_type mtype (take style.size given)

-- What a result adds to what is shown: the lines of a queue, or a message.
abbrev pub answer_text : Style → ReplyContent → List ℕ → List ℕ
answer_text style (Row (Some row)) given = row_text style row
answer_text style (Rcv mtype) given = message_text style mtype given
answer_text style (Get id) given = if style.shows_id then id_line id else []
answer_text style (Stat stat) given = stat_lines stat
answer_text style (Row None) given = []
answer_text style (Refused error) given = []
answer_text style Hello given = []
answer_text style (HelloSlots slots) given = []
answer_text style Snd given = []
answer_text style Set given = []
answer_text style Rm given = []
answer_text style Done given = []
answer_text style Back given = []
answer_text style (Hold mtype) given = []

-- What is shown before the results: for `ipcs` the head of the table.
abbrev pub task_head : Task → List ℕ
task_head (Table AsTable) = table_head
task_head (Table Json) = []
task_head (Show id) = []
task_head (Remove target) = []
task_head (Make making) = []
task_head (Send key text mtype nowait) = []
task_head (Receive receipt) = []

-- What these exchanges add.
abbrev pub answers_text : Style → List Exchange → List ℕ
answers_text style exchanges = flat_map (λ exchange. answer_text style exchange.answer exchange.given) exchanges

-- What is shown of these exchanges.
abbrev pub page_text : Task → List Exchange → List ℕ
page_text task exchanges = task_head task ++ answers_text (style_of task) exchanges

-- The maximum number of bytes that a result adds.
abbrev pub answer_most : ReplyContent → ℕ
answer_most (Rcv mtype) = 49200
answer_most (Row row) = MAX_LINE
answer_most (Refused error) = MAX_LINE
answer_most Hello = MAX_LINE
answer_most (HelloSlots slots) = MAX_LINE
answer_most (Get id) = MAX_LINE
answer_most Snd = MAX_LINE
answer_most (Stat stat) = MAX_LINE
answer_most Set = MAX_LINE
answer_most Rm = MAX_LINE
answer_most Done = MAX_LINE
answer_most Back = MAX_LINE
answer_most (Hold mtype) = MAX_LINE
