-- Laws of the definitions in specs/, and the definitions by computation: a table of cases over the outcome functions, with the starred
-- cases of document 01 and the rest of its visit. Computing: what the tables compute with.
pub mod Computing
pub mod Reasons
pub mod Lengths
pub mod AnswerNumbers
pub mod EveryEndpoint
pub mod StoreLength
pub mod HeaderRoundTrip
pub mod Cases
pub mod StoreBytes
pub mod UnfitCases
pub mod AuthorizationCases
pub mod AuthorizationStores
pub mod CheckCases
pub mod TokenRows
pub mod TokenCases
pub mod CredentialsCases
pub mod HeaderCases
pub mod SpentCases
pub mod ChallengeCases
pub mod RevocationCases
pub mod Starred
pub mod Visit
pub mod Table
