-- The numbers of every refusal, by computation: its number in document 01's table, that of its error word, and its HTTP status, each 0
-- where there is none. The tables of cases see those that an endpoint answers; here are also those that no endpoint does.
-- Assumes nothing.
use Prim.Native.Nat.{ℕ}
use mathlib.Core.Path.{◌≡◌, refl}
use mathlib.Core.List.{List, [], ◌∷◌, map}
use Rattle.protocol.specs.declared.ErrorWord.{ErrorWord}
use Rattle.protocol.specs.declared.ErrorWord.TheVariants.{InvalidRequest, InvalidClient, InvalidGrant, InvalidScope, UnsupportedGrantType, UnsupportedResponseType, AccessDenied, TemporarilyUnavailable, ServerError, UnauthorizedClient}
use Rattle.protocol.specs.declared.Input.TheVariants.{Buffers, Registry, Store, Clock}
use Rattle.protocol.specs.declared.PageCause.TheVariants.{Query, Client, RedirectUri}
use Rattle.protocol.specs.declared.Failure.TheVariants.{NoRoom, Clash}
use Rattle.protocol.specs.declared.Refusal.{Refusal}
use Rattle.protocol.specs.declared.Refusal.TheVariants.{Unfit, ErrorPage, Redirect, Token, Failed}
use Rattle.protocol.specs.Answers.{refusal_number, error_number, refusal_status}

numbers : Refusal → List ℕ
numbers r = refusal_number r ∷ error_number r ∷ refusal_status r ∷ []

words : List ErrorWord
words =
    InvalidRequest
    ∷ InvalidClient
    ∷ InvalidGrant
    ∷ InvalidScope
    ∷ UnsupportedGrantType
    ∷ UnsupportedResponseType
    ∷ AccessDenied
    ∷ TemporarilyUnavailable
    ∷ ServerError
    ∷ UnauthorizedClient
    ∷ []

-- refusals 1 to 4 and 5 to 7 are a number alone
unfit-numbers : map numbers (Unfit Buffers ∷ Unfit Registry ∷ Unfit Store ∷ Unfit Clock ∷ [])
    ≡ (1 ∷ 0 ∷ 0 ∷ []) ∷ (2 ∷ 0 ∷ 0 ∷ []) ∷ (3 ∷ 0 ∷ 0 ∷ []) ∷ (4 ∷ 0 ∷ 0 ∷ []) ∷ []
unfolding numbers
unfit-numbers = refl

page-numbers : map numbers (ErrorPage Query ∷ ErrorPage Client ∷ ErrorPage RedirectUri ∷ [])
    ≡ (5 ∷ 0 ∷ 0 ∷ []) ∷ (6 ∷ 0 ∷ 0 ∷ []) ∷ (7 ∷ 0 ∷ 0 ∷ []) ∷ []
unfolding numbers
page-numbers = refl

-- an error word has its number, at both endpoints; with a redirect there is no status
redirect-numbers : map (λ w. numbers (Redirect w)) words
    ≡ (0 ∷ 1 ∷ 0 ∷ []) ∷ (0 ∷ 2 ∷ 0 ∷ []) ∷ (0 ∷ 3 ∷ 0 ∷ []) ∷ (0 ∷ 4 ∷ 0 ∷ []) ∷ (0 ∷ 5 ∷ 0 ∷ []) ∷ (0 ∷ 6 ∷ 0 ∷ []) ∷ (0 ∷ 7 ∷ 0 ∷ [])
    ∷ (0 ∷ 8 ∷ 0 ∷ []) ∷ (0 ∷ 9 ∷ 0 ∷ []) ∷ (0 ∷ 10 ∷ 0 ∷ []) ∷ []
unfolding numbers words
redirect-numbers = refl

-- "`invalid_client`, status 401 .. all else 400"
token-numbers : map (λ w. numbers (Token w)) words
    ≡ (0 ∷ 1 ∷ 400 ∷ []) ∷ (0 ∷ 2 ∷ 401 ∷ []) ∷ (0 ∷ 3 ∷ 400 ∷ []) ∷ (0 ∷ 4 ∷ 400 ∷ []) ∷ (0 ∷ 5 ∷ 400 ∷ []) ∷ (0 ∷ 6 ∷ 400 ∷ [])
    ∷ (0 ∷ 7 ∷ 400 ∷ []) ∷ (0 ∷ 8 ∷ 400 ∷ []) ∷ (0 ∷ 9 ∷ 400 ∷ []) ∷ (0 ∷ 10 ∷ 400 ∷ []) ∷ []
unfolding numbers words
token-numbers = refl

-- "Status 503, empty: fewer slots .. Status 500, empty: a handle .. equals"
failure-numbers : map numbers (Failed NoRoom ∷ Failed Clash ∷ []) ≡ (0 ∷ 0 ∷ 503 ∷ []) ∷ (0 ∷ 0 ∷ 500 ∷ []) ∷ []
unfolding numbers
failure-numbers = refl
