-- The passes of a service, from its opening until all have been joined, and the calls that they made.
-- After all of them were joined into one, the order that the close of the service finds is a run of
-- a world with those calls (this project's profile).
use Rattle.std.specs.Prelude.{◌≡◌, ℕ, List, [], ◌∷◌, ◌++◌, All}
use Rattle.sysv_model.specs.History.{ReadRow, Reply}
use Rattle.sysv_model.specs.Turn.{AtSlot}
use Rattle.sysv_model.specs.Turns.{Numbered, turns_of}
use Rattle.sysv_model.specs.Members.{Member, AreWhole, first_with, SeesMore, MakesTurn, Does, Splits, Joins, Closes}
use Rattle.sysv_objects.specs.LegalOp.{AreLegal}
use Rattle.sysv_thread_laws.specs.Order.{Called, IsPlayed, AreAll}
use Rattle.sysv_thread_laws.specs.OrderIsRun.{IsRunWith}
use Rattle.sysv_thread_laws.specs.AtRest.{Rests, AreAtRest}

-- ---- all passes

-- The passes that exist now, and the calls that were made so far. The next step is that of the
-- first pass.
pub data IsTeam : List Member → List Called → Type 0 where
  -- The service was opened.
  opens : (number : ℕ) → IsTeam (first_with number ∷ []) []
  -- The first pass made a call, which is over, was left at a wait, or is still pending.
  calls : {one : Member} {rest : List Member} {made : List Called} (call : Called) (after : Member) →
      IsTeam (one ∷ rest) made →
      call.by ≡ one.number → IsPlayed call → Does one call.ops after → IsTeam (after ∷ rest) (made ++ call ∷ [])
  -- The first pass read the row of a slot, which is no call.
  reads : {one : Member} {rest : List Member} {made : List Called} (slot : ℕ) (reply : Reply) (after : Member) →
      IsTeam (one ∷ rest) made →
      MakesTurn one (AtSlot slot ReadRow reply) after → IsTeam (after ∷ rest) made
  -- The first pass has seen more turns of other passes.
  goes_on : {one : Member} {rest : List Member} {made : List Called} (after : Member) → IsTeam (one ∷ rest) made →
      SeesMore one after → IsTeam (after ∷ rest) made
  -- Another pass was split off the first.
  splits : {one : Member} {rest : List Member} {made : List Called} (kept new : Member) → IsTeam (one ∷ rest) made →
      Splits one kept new → IsTeam (kept ∷ new ∷ rest) made
  -- The second pass was joined into the first.
  joins : {one two : Member} {rest : List Member} {made : List Called} (after : Member) →
      IsTeam (one ∷ two ∷ rest) made →
      Joins one two after → IsTeam (after ∷ rest) made
  -- Another pass becomes the first.
  turns_to : {one : Member} {made : List Called} (before rest : List Member) → IsTeam (before ++ one ∷ rest) made →
      IsTeam (one ∷ before ++ rest) made

-- ---- the law

-- The calls are all that made the order, it is a run with them, and it is at rest if each of them
-- is.
pub record IsServed (generation blocks : ℕ) (order : List Numbered) (calls : List Called) : Type 0 where
  pub all : AreAll order calls
  pub run : IsRunWith generation blocks order calls
  pub at_rest : All (λ (c : Called). Rests c.state) calls → AreAtRest generation blocks (turns_of order)

-- After all passes have been joined into one, the order that its close finds is a run with all calls
-- that were made, if the replies of the order are legal.
abbrev pub EveryServiceIsARun : Type 0
EveryServiceIsARun = (generation blocks : ℕ) (last : Member) (calls : List Called) (order : List Numbered) →
    IsTeam (last ∷ []) calls → Closes last order → AreLegal generation blocks (turns_of order) →
    IsServed generation blocks order calls

-- After all passes have been joined into one, that one has the whole service.
abbrev pub EveryLastPassIsWhole : Type 0
EveryLastPassIsWhole = (last : Member) (calls : List Called) → IsTeam (last ∷ []) calls → AreWhole last.shares
