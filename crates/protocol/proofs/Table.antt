-- One table over the outcome functions, and one claim about it: from raw bytes each of its cases is decided as document 01 says, and
-- document 02 where it amends that.
--
-- In order: refusals 1 to 4; the authorization endpoint; the check; the token endpoint, its client_credentials grant, the halves of its
-- header and codes that are spent; codes with a challenge at both endpoints; the revocation endpoint; the visit in runs of calls. That of
-- a starred case is in `Starred`. Each row carries that it agrees, so the claim follows for the whole list.
-- Assumes nothing.
use mathlib.Core.List.{List, ◌++◌}
use Rattle.protocol.proofs.Cases.{Row, AllDecided, all-decided}
use Rattle.protocol.proofs.UnfitCases.{buffers, order, slots, registries, many_clients}
use Rattle.protocol.proofs.AuthorizationCases.{pages, errors, codes}
use Rattle.protocol.proofs.AuthorizationStores.{room_and_clashes, times, held}
use Rattle.protocol.proofs.CheckCases.{checked}
use Rattle.protocol.proofs.TokenCases.{token_cases}
use Rattle.protocol.proofs.CredentialsCases.{credentials_cases}
use Rattle.protocol.proofs.HeaderCases.{header_cases}
use Rattle.protocol.proofs.SpentCases.{spent_cases}
use Rattle.protocol.proofs.ChallengeCases.{challenge_cases, verifier_cases}
use Rattle.protocol.proofs.RevocationCases.{revocation_cases}
use Rattle.protocol.proofs.Visit.{night, day, tries, leak, farewell}

pub table : List Row
table =
    buffers ++ order ++ slots ++ registries ++ many_clients ++ pages ++ errors ++ codes ++ room_and_clashes ++ times ++ held ++ checked
    ++ token_cases ++ credentials_cases ++ header_cases ++ spent_cases ++ challenge_cases ++ verifier_cases ++ revocation_cases
    ++ night ++ day ++ tries ++ leak ++ farewell

pub table-decided : AllDecided table
table-decided = all-decided table
