-- client_forms: who a form comes from, and what its reader answers, as the contracts say it.
pub mod Callers
pub mod Forms
