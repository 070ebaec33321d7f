-- What the code reports of a live queue is what its state shows.
use Rattle.std.proofs.Common.{◌≡◌, ℕ, List, Option, Some, option_map, length, sym, ap, ◌∙◌}
use Rattle.sysv_model.specs.declared.attributes.Attributes.{Attributes}
use Rattle.sysv_model.specs.declared.attributes.Stat.{Stat}
use Rattle.sysv_model.specs.declared.attributes.Row.{Row}
use Rattle.sysv_model.specs.Message.{Message}
use Rattle.sysv_queue.specs.Fits.{bytes_of}
use Rattle.sysv_queue.specs.Shown.{stat_of, row_of}

module _ (messages : List Message) (live : Option Attributes) (a : Attributes) (cbytes qnum : ℕ) (is : live ≡ Some a)
    (bytes : cbytes ≡ bytes_of messages) (many : qnum ≡ length messages) where
  pub row_shown : ◌≡◌ {A = Option Row}
      (Some (record { id = a.id; key = a.key; uid = a.perm.uid; mode = a.perm.mode; cbytes = cbytes; qnum = qnum }))
      (option_map (row_of messages) live)
  row_shown =
      ap (λ n. Some (record (row_of messages a) { cbytes = n; qnum = qnum })) bytes
      ∙ (ap (λ n. Some (record (row_of messages a) { qnum = n })) many ∙ sym (ap (option_map (row_of messages)) is))

  pub stat_shown : ◌≡◌ {A = Option Stat} (option_map (stat_of messages) live)
      (Some (record (stat_of messages a) { cbytes = cbytes; qnum = qnum }))
  stat_shown =
      ap (option_map (stat_of messages)) is
      ∙ (ap (λ n. Some (record (stat_of messages a) { qnum = n })) (sym many)
      ∙ ap (λ n. Some (record (stat_of messages a) { cbytes = n; qnum = qnum })) (sym bytes))
