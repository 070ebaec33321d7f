-- The numbers of the queued messages stay below the arrived count when messages are added and
-- removed.
use Rattle.std.proofs.Common.{◌≡◌, ℕ, zero, suc, ◌+◌, ◌<◌, List, [], ◌∷◌, ◌++◌, remove, sym, subst, arith}
use Rattle.std.specs.List.{All}
use Rattle.std.proofs.lemmas.List.Elements.{All-cons, All-head, All-tail, All-push, All-weaker}
use Rattle.sysv_model.specs.Message.{Message}
use Rattle.sysv_queue.specs.Numbered.{AreNumberedBelow}

all_left : {X : Type 0} (P : X → Type 0) (xs : List X) (place : ℕ) → All P xs → All P (remove xs place)
all_left P [] zero all = all
all_left P [] (suc place) all = all
all_left P (x ∷ xs) zero all = All-tail P x xs all
all_left P (x ∷ xs) (suc place) all =
    All-cons P x (remove xs place) (All-head P x xs all) (all_left P xs place (All-tail P x xs all))

pub numbered_left : (count : ℕ) (ms left : List Message) (place : ℕ) → left ≡ remove ms place →
    AreNumberedBelow count ms → AreNumberedBelow count left
numbered_left count ms left place is below =
    subst (AreNumberedBelow count) (sym is) (all_left (λ (m : Message). m.number < count) ms place below)

pub numbered_later : (count : ℕ) (ms : List Message) → AreNumberedBelow count ms → AreNumberedBelow (count + 1) ms
numbered_later count ms below = All-weaker (λ (m : Message). m.number < count) (λ (m : Message). m.number < count + 1)
    (λ m less. omega arith) ms below

pub numbered_more : (count : ℕ) (ms more : List Message) (m : Message) → more ≡ ms ++ m ∷ [] → m.number ≡ count →
    AreNumberedBelow count ms → AreNumberedBelow (count + 1) more
numbered_more count ms more m is last below =
    subst (AreNumberedBelow (count + 1)) (sym is)
    (All-push (λ (x : Message). x.number < count + 1) ms m (numbered_later count ms below) (omega arith))
