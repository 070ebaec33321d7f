-- The message that a line states (this project's programs): the line is its body, or a JSON object
-- (RFC 8259) with its type and its body, as a rcv prints it.
use Rattle.std.specs.Prelude.{◌≡◌, ◌≤◌, ◌⊎◌, ℕ, ℤ, List, [], ◌∷◌, ◌++◌, codes, length}
use Rattle.std.specs.Str.{IsUtf8}
use Rattle.base64.specs.Engines.{standard}
use Rattle.base64.specs.GeneralPurpose.{IsBytes, encode_of}
use Rattle.json.specs.Lex.{tokens}
use Rattle.json.specs.Token.{Token, begin_object, end_object, key, number, string}
use Rattle.sysv_clients.specs.declared.sending.Wording.{Wording}
use Rattle.sysv_clients.specs.declared.sending.Wording.TheVariants.{Bodies, Objects}
use Rattle.sysv_clients.specs.declared.stated.Part.{Part}
use Rattle.sysv_clients.specs.declared.stated.Part.TheVariants.{Digits, Body}
use Rattle.sysv_clients.specs.declared.stated.Members.{Members}
use Rattle.sysv_clients.specs.declared.stated.Stated.{Stated}
use Rattle.sysv_clients.specs.declared.stated.Stated.TheVariants.{Text, Coded}
use Rattle.sysv_clients.specs.declared.stated.TheConstants.{OBJECT_BYTES}
use Rattle.sysv_clients.specs.Words.{IsType}
use Rattle.sysv_model.specs.declared.limits.TheConstants.{MESSAGE_BYTES}

-- The tokens of the member that states a type.
abbrev pub type_member : List ℕ → List Token
type_member digits = key (codes "type") ∷ number digits ∷ []

-- The tokens of the member that states a body as a string.
abbrev pub text_member : List ℕ → List Token
text_member text = key (codes "body") ∷ string text ∷ []

-- The tokens of the member that states a body in base64 (RFC 4648, with padding).
abbrev pub coded_member : List ℕ → List Token
coded_member text = key (codes "base64") ∷ string text ∷ []

-- The member states this body.
abbrev pub StatesBody : List Token → List ℕ → Type 0
StatesBody member body =
    (member ≡ text_member body) ⊎ (IsBytes body × (member ≡ coded_member (encode_of standard body)))

-- The tokens of an object with two members.
abbrev pub object_tokens : (first second : List Token) → List Token
object_tokens first second = begin_object ∷ (first ++ (second ++ end_object ∷ []))

-- These are the tokens of an object that has this type and this other member, in either order.
abbrev pub IsObjectWith : List Token → (digits : List ℕ) → (member : List Token) → Type 0
IsObjectWith all digits member =
    (all ≡ object_tokens (type_member digits) member) ⊎ (all ≡ object_tokens member (type_member digits))

-- The line is a JSON object that states this message: it has a type and a body, and no other member.
pub record IsObjectOf (line : List ℕ) (mtype : ℤ) (body : List ℕ) : Type 0 where
  pub digits : List ℕ
  pub member : List Token  -- the member that states the body
  pub utf8 : IsUtf8 line
  pub object : IsObjectWith (tokens line) digits member
  pub has_type : IsType digits mtype
  pub has_body : StatesBody member body
  pub short : length body ≤ MESSAGE_BYTES

-- The maximum number of bytes in a line.
abbrev pub line_most : Wording → ℕ
line_most (Bodies mtype) = MESSAGE_BYTES
line_most Objects = OBJECT_BYTES

-- The number of bytes for whose strings memory is allocated before the first line.
abbrev pub strings_most : Wording → ℕ
strings_most (Bodies mtype) = 0
strings_most Objects = OBJECT_BYTES

-- The line states a message of this type with this body.
abbrev pub States : Wording → List ℕ → ℤ → List ℕ → Type 0
States (Bodies own) line mtype body = (mtype ≡ own) × (body ≡ line)
States Objects line mtype body = IsObjectOf line mtype body

-- The line states no message.
abbrev pub StatesNone : Wording → List ℕ → Type 0
StatesNone wording line = (mtype : ℤ) (body : List ℕ) → ¬ States wording line mtype body

-- The tokens of a member that states a body.
abbrev pub body_tokens : Stated → List Token
body_tokens (Text text) = text_member text.now
body_tokens (Coded text) = coded_member text.now

-- The tokens of a member that states a type or a body.
abbrev pub member_tokens : Part → List Token
member_tokens (Digits digits) = type_member digits.now
member_tokens (Body body) = body_tokens body

-- No member that states a type or a body comes next.
abbrev pub HasNoMember : List Token → Type 0
HasNoMember all = (text : List ℕ) (rest : List Token) →
    ¬ (all ≡ type_member text ++ rest) × ¬ (all ≡ text_member text ++ rest) × ¬ (all ≡ coded_member text ++ rest)

-- These are the tokens of an object with these members.
abbrev pub AreMembers : List Token → Members → Type 0
AreMembers all members = IsObjectWith all members.digits.now (body_tokens members.body)

-- These are not the tokens of an object that has a type and a body.
abbrev pub HasNoMembers : List Token → Type 0
HasNoMembers all = (digits text : List ℕ) →
    ¬ IsObjectWith all digits (text_member text) × ¬ IsObjectWith all digits (coded_member text)
