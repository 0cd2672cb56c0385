-- Calls that are refused, retried or run, and the state without the retries (RFC 8881, section 2.10.6.1).
use Rattle.std.specs.Prelude.{◌≡◌, Bool, true, false, not, List, [], ◌∷◌, map, filter}

-- how a call is handled, decided before it is run: it is run, it gets this cached reply, or it is refused with this
-- reply
pub data Fate (Reply : Type 0) : Type 0 where
  Runs : Fate Reply
  Retries : Reply → Fate Reply
  Fails : Reply → Fate Reply

abbrev pub is_retry : {Reply : Type 0} → Fate Reply → Bool
is_retry Runs = false
is_retry (Retries reply) = true
is_retry (Fails reply) = false

-- A call is answered by how it is handled: `Runs` relates the results and states of a call that is run. Otherwise the
-- state stays.
abbrev pub AnswersBy : {Call State Reply : Type 0} → (Call → State → Reply → State → Type 0) → Fate Reply → Call → State
    → Reply → State → Type 0
AnswersBy Run Runs call old reply new = Run call old reply new
AnswersBy Run (Retries kept) call old reply new = (reply ≡ kept) × (new ≡ old)
AnswersBy Run (Fails refusal) call old reply new = (reply ≡ refusal) × (new ≡ old)

-- calls are answered in turn
abbrev pub AnswersAll : {Call State Reply : Type 0} → (State → Call → Fate Reply)
    → (Call → State → Reply → State → Type 0) → List Call → List Reply → State → State → Type 0
AnswersAll fate Run [] [] old new = new ≡ old
AnswersAll fate Run [] (reply ∷ replies) old new = ⊥
AnswersAll fate Run (call ∷ calls) [] old new = ⊥
AnswersAll {Call} {State} fate Run (call ∷ calls) (reply ∷ replies) old new =
    (mid : State) × AnswersBy Run (fate old call) call old reply mid × AnswersAll fate Run calls replies mid new

-- calls that are answered in turn, with their replies and the states before and after
pub record Answering (Call State Reply : Type 0) : Type 0 where
  pub calls : List Call
  pub replies : List Reply
  pub old : State
  pub new : State

-- a call with its reply, and whether it was a retry
pub record Exchange (Call Reply : Type 0) : Type 0 where
  pub call : Call
  pub reply : Reply
  pub retries : Bool

-- the exchanges without the retries
abbrev pub first_ones : {Call Reply : Type 0} → List (Exchange Call Reply) → List (Exchange Call Reply)
first_ones es = filter (λ e. not e.retries) es

-- The exchanges are answered in turn. Each is marked as a retry if it was one, in the state after those before it.
abbrev pub AreAnswered : {Call State Reply : Type 0} → (State → Call → Fate Reply)
    → (Call → State → Reply → State → Type 0) → List (Exchange Call Reply) → State → State → Type 0
AreAnswered fate Run [] old new = new ≡ old
AreAnswered {Call} {State} fate Run (e ∷ es) old new =
    (mid : State) × AnswersBy Run (fate old e.call) e.call old e.reply mid × (e.retries ≡ is_retry (fate old e.call))
    × AreAnswered fate Run es mid new

-- The calls with their replies, marked. The rest without the retries leads to the same state.
pub record WithoutRetries {Call State Reply : Type 0} (fate : State → Call → Fate Reply)
    (Run : Call → State → Reply → State → Type 0) (a : Answering Call State Reply) : Type 0 where
  pub exchanges : List (Exchange Call Reply)
  pub of_calls : map (λ e. e.call) exchanges ≡ a.calls
  pub of_replies : map (λ e. e.reply) exchanges ≡ a.replies
  pub marked : AreAnswered fate Run exchanges a.old a.new
  pub rest : AreAnswered fate Run (first_ones exchanges) a.old a.new
