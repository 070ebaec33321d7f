-- Connections let in the callers of the sockets at which they came in.
use Rattle.std.proofs.Common.{◌≡◌, ◌∙◌, suc, List, [], ◌∷◌, ◌++◌, map, Option, None, Some}
use Rattle.std.proofs.Common.{ap₂, arith, refl, subst, sym}
use Rattle.std.specs.Prelude.{Contains, IfSome}
use Rattle.std.specs.List.{AllByRecursion}
use Rattle.sysv_seats.specs.declared.callers.Callers.{Callers}
use Rattle.sysv_seats.specs.declared.socket_stream.SocketStream.{SocketStream}
use Rattle.sysv_seats.specs.Untold.{callers_of}
use Rattle.sysv_server.specs.Doors as doors
use Rattle.sysv_server.specs.Doors.{Came, EachCame, OneCame, all_accepted}
use Rattle.sysv_server.specs.LetIn.{EachConnectionIsLetIn, EachLetsInOneOf, HostedSteps, callers_at, sockets_at}

-- ---- lists

module _ {A : Type 0} where
  all_both : (P : A → Type 0) (xs ys : List A) → AllByRecursion P xs → AllByRecursion P ys →
      AllByRecursion P (xs ++ ys)
  all_both P [] ys first second = second
  all_both P (x ∷ xs) ys first second = (first.0, all_both P xs ys first.1 second)

  all_so : (P Q : A → Type 0) → ((x : A) → P x → Q x) → (xs : List A) → AllByRecursion P xs → AllByRecursion Q xs
  all_so P Q so [] all = tt
  all_so P Q so (x ∷ xs) all = (so x all.0, all_so P Q so xs all.1)

  is_first : (x y : A) (xs : List A) → y ≡ x → Contains (x ∷ xs) y
  is_first x y xs is = (0, omega arith, sym is)

  is_later : (x y : A) (xs : List A) → Contains xs y → Contains (x ∷ xs) y
  is_later x y xs has = (suc has.0, omega (arith, has.1), has.2)

-- Sockets that let in more callers let in those of fewer.
lets_in_more : (few many : List Callers) → ((callers : Callers) → Contains few callers → Contains many callers) →
    (connections : List SocketStream) → EachLetsInOneOf few connections → EachLetsInOneOf many connections
lets_in_more few many more connections each =
    all_so (λ c. Contains few (callers_of c)) (λ c. Contains many (callers_of c)) (λ c has. more (callers_of c) has)
    connections each

module _ {L : Type 0} (steps : L → Option SocketStream → L → Type 0) (lets : L → Callers)
    (keeps : (old : L) (step : Option SocketStream) (new : L) → steps old step new →
    (lets new ≡ lets old) × IfSome step (λ stream. callers_of stream ≡ lets old)) where
  -- A socket keeps its callers, and each of its connections lets in these.
  one_keeps : (before after : L) (accepted : List SocketStream) → Came steps before accepted after →
      (lets after ≡ lets before) × AllByRecursion (λ (c : SocketStream). callers_of c ≡ lets before) accepted
  one_keeps before end [] doors.begins = (refl, tt)
  one_keeps before end accepted (doors.quietly {mid = mid} after came step) =
      let rest = one_keeps before mid accepted came in
      ((keeps mid None after step).0 ∙ rest.0, rest.1)
  one_keeps before end all (doors.accepts {accepted = accepted} {mid = mid} stream after came step) =
      let rest = one_keeps before mid accepted came in
      let kept = keeps mid (Some stream) after step in (
        kept.0 ∙ rest.0,
        all_both (λ c. callers_of c ≡ lets before) accepted (stream ∷ []) rest.1 (kept.1 ∙ rest.0, tt),
      )

  -- The same of several sockets.
  each_keeps : (befores : List L) (parts : List (List SocketStream)) (afters : List L) →
      EachCame steps befores parts afters →
      (map lets afters ≡ map lets befores) × EachLetsInOneOf (map lets befores) (all_accepted parts)
  each_keeps [] [] [] each = (refl, tt)
  each_keeps [] [] (a ∷ afters) each = absurd each
  each_keeps [] (p ∷ parts) afters each = absurd each
  each_keeps (b ∷ befores) [] afters each = absurd each
  each_keeps (b ∷ befores) (p ∷ parts) [] each = absurd each
  each_keeps (b ∷ befores) (p ∷ parts) (a ∷ afters) each =
      let one = one_keeps b a p each.0 in
      let rest = each_keeps befores parts afters each.1 in (
        ap₂ (λ (c : Callers) (cs : List Callers). c ∷ cs) one.0 rest.0,
        all_both (λ c. Contains (lets b ∷ map lets befores) (callers_of c)) p (all_accepted parts)
            (all_so (λ c. callers_of c ≡ lets b) (λ c. Contains (lets b ∷ map lets befores) (callers_of c))
            (λ c is. is_first (lets b) (callers_of c) (map lets befores) is) p one.1)
            (lets_in_more (map lets befores) (lets b ∷ map lets befores)
            (λ c has. is_later (lets b) c (map lets befores) has) (all_accepted parts) rest.1),
      )

  one_step : (befores afters : List L) (step : Option SocketStream) → OneCame steps befores step afters →
      (map lets afters ≡ map lets befores)
      × IfSome step (λ stream. Contains (map lets befores) (callers_of stream))
  one_step befores afters None came = ((each_keeps befores came.0 afters came.1).0, tt)
  one_step befores afters (Some stream) came =
      let each = each_keeps befores came.0 afters came.1 in
      (each.0, (subst (EachLetsInOneOf (map lets befores)) came.2 each.1).0)

  -- All steps that such sockets make together.
  module _ {D : Type 0} (sockets : D → List L) where
    all_keep : (before after : D) (accepted : List SocketStream) →
        Came (λ old step new. OneCame steps (sockets old) step (sockets new)) before accepted after →
        (map lets (sockets after) ≡ map lets (sockets before))
        × EachLetsInOneOf (map lets (sockets before)) accepted
    all_keep before end [] doors.begins = (refl, tt)
    all_keep before end accepted (doors.quietly {mid = mid} after came step) =
        let rest = all_keep before mid accepted came in
        ((one_step (sockets mid) (sockets after) None step).0 ∙ rest.0, rest.1)
    all_keep before end all (doors.accepts {accepted = accepted} {mid = mid} stream after came step) =
        let rest = all_keep before mid accepted came in
        let kept = one_step (sockets mid) (sockets after) (Some stream) step in (
          kept.0 ∙ rest.0,
          all_both (λ c. Contains (map lets (sockets before)) (callers_of c)) accepted (stream ∷ []) rest.1
              (subst (λ (cs : List Callers). Contains cs (callers_of stream)) rest.0 kept.1, tt),
        )

pub doors_let_in : (H : Type 0) → EachConnectionIsLetIn H
doors_let_in H before after accepted came =
    (all_keep HostedSteps callers_at (λ old step new made. (made.1, made.2)) sockets_at before after accepted came).1
